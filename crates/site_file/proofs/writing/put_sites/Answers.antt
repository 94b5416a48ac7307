-- `put_sites` meets its contract: what is left to store, stored after what was, is the whole body.
use mathlib.Core.Path.{◌∙◌}
use native.Mathlib.Omega.{arith}
use borrow.Author.Rules.{rules}
use Rattle.site_file.proofs.File.{sites_step, sites_end}
use Rattle.site_file.proofs.writing.put_sites.Goals as goal

pub loop-i-preserved : goal.loop-i-preserved
loop-i-preserved c =
    sites_step _ c.requires.level _ _ _ (omega arith) c.loop-i-test.true (search rules) (search rules) c.put_site.ensures
    ∙ c.loop-i.invariant

pub returns : goal.returns
returns c = sites_end _ c.requires.level _ _ _ c.loop-i-test.false ∙ c.loop-i.invariant
