-- `campaign::marks::lawful` meets its contract.
use Rattle.campaign.proofs.MarksInvariant.{marks_more, marks_fall, marks_end}
use Rattle.campaign.proofs.marks.lawful.Goals as goal

pub returns-then-not-lawful_at : goal.returns-then-not-lawful_at
returns-then-not-lawful_at c =
    marks_fall _ _ _ c.loop-i.i c.loop-i.invariant c.loop-i-test.true c.lawful_at.ensures c.if-not-lawful_at.true

pub loop-i-preserved : goal.loop-i-preserved
loop-i-preserved c =
    marks_more _ _ _ c.loop-i.i c.loop-i.invariant c.loop-i-test.true c.lawful_at.ensures c.if-not-lawful_at.false

pub returns : goal.returns
returns c = marks_end _ _ _ c.loop-i.i c.loop-i.invariant c.loop-i-test.false
