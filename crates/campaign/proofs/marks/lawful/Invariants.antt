-- `campaign::marks::lawful` meets its contract. The loop's invariant: the marks still to pass tell what all tell.
use Rattle.std.proofs.Common.{◌≡◌, drop}
use Rattle.campaign.specs.Grid.{lawful_marks}
use Rattle.campaign.proofs.marks.lawful.Given as goal

abbrev pub invariant-loop-i : goal.invariant-loop-i
invariant-loop-i l = lawful_marks l.rows l.cols l.i (drop l.i l.marks) ≡ lawful_marks l.rows l.cols 0 l.marks
