-- `campaign::ends::lawful` meets its contract.
use Rattle.campaign.proofs.EndsInvariant.{tested_none, tested_more, tested_falls, tested_all, too_many}
use Rattle.campaign.proofs.ends.lawful.Goals as goal

pub returns-then-ends-gt32 : goal.returns-then-ends-gt32
returns-then-ends-gt32 c = too_many _ _ c.if-ends-gt32.true

pub loop-end-init : goal.loop-end-init
loop-end-init c = tested_none _

pub returns-then-end-last : goal.returns-then-end-last
returns-then-end-last c =
    tested_falls _ _ c.loop-end.end-index c.loop-end-test.true c.loop-end.invariant _ c.if-ends-gt32.false c.if-end-last.true

pub loop-end-preserved : goal.loop-end-preserved
loop-end-preserved c = tested_more _ _ c.loop-end.end-index c.loop-end-test.true c.loop-end.invariant c.if-end-last.false

pub returns : goal.returns
returns c = tested_all _ _ _ _ c.loop-end-test.false c.if-ends-gt32.false c.loop-end.invariant
