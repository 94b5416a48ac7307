-- `content_refusal` meets its contract: the limits, then the order.
use Rattle.site.specs.Answer.{number, refusal_of}
use Rattle.site_file.proofs.ReadAnswer.{unlawful_site, unordered_sites, lawful_sites}
use Rattle.site_file.proofs.reading.content_refusal.Goals as goal

pub returns-then-not-all_lawful : goal.returns-then-not-all_lawful
unfolding refusal_of number
returns-then-not-all_lawful c = unlawful_site _ c.all_lawful.ensures (c.if-not-all_lawful.true)

pub returns-then-not-all_ascending : goal.returns-then-not-all_ascending
unfolding refusal_of number
returns-then-not-all_ascending c =
    unordered_sites _ c.all_lawful.ensures (c.if-not-all_lawful.false)
    c.all_ascending.ensures
    (c.if-not-all_ascending.true)

pub returns : goal.returns
unfolding refusal_of
returns c =
    lawful_sites _ c.all_lawful.ensures (c.if-not-all_lawful.false)
    c.all_ascending.ensures
    (c.if-not-all_ascending.false)
