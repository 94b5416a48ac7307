-- `site::ascends` meets its contract.
use mathlib.Core.Path.{◌≡◌, ◌∙◌, sym, ap}
use Prim.Native.Nat.{ℕ, ◌+◌, ◌-◌}
use native.Mathlib.Omega.{arith}
use lib.Dec.{eqb}
use lib.ListN.{drop}
use Rattle.site.specs.Site.{site_before}
use Rattle.site.specs.SiteList.{columns, sites, site_at}
use Rattle.site.proofs.SiteList.{nowhere, sites_length}
use Rattle.site.proofs.Counting.{no_le, breaks, breaks_end, breaks_step, ascending_breaks}
use Rattle.site.proofs.lists.ascends.Goals as goal

pub loop-i-preserved : goal.loop-i-preserved
unfolding site_at
loop-i-preserved c =
    let l = columns c.args.x.now c.args.y.now c.args.number.now in
    let i = c.loop-i.i in
    let long = sites_length l c.requires.0 in
    let small = no_le (site_before (site_at (sites l) (i - 1)) (site_at (sites l) (i - 1 + 1))) c.break_at-breaks.ensures in
    let step : c.break_at-breaks.result + breaks site_before (drop (i - 1 + 1) (sites l)) ≡ breaks site_before (drop (i - 1) (sites l)) =
    rw (breaks_step site_before (sites l) (i - 1) nowhere (omega (arith, c.loop-i-test.true, c.loop-i.auto.i)))
    (ap (λ (n : ℕ). n + breaks site_before (drop (i - 1 + 1) (sites l))) c.break_at-breaks.ensures) in
    let next : i + 1 - 1 ≡ i - 1 + 1 = omega (arith, c.loop-i.auto.i) in
    rw next (omega (arith, small, c.loop-i.invariant.0), omega (arith, step, c.loop-i.invariant.1))

pub returns : goal.returns
returns c =
    let l = columns c.args.x.now c.args.y.now c.args.number.now in
    let i = c.loop-i.i in
    let long = sites_length l c.requires.0 in
    let none = breaks_end site_before (sites l) (i - 1) (omega (arith, c.loop-i-test.false, c.loop-i.auto.i)) in
    let all : c.loop-i.breaks ≡ breaks site_before (sites l) = omega (arith, none, c.loop-i.invariant.1) in
    ap (λ (n : ℕ). eqb n 0) all ∙ sym (ascending_breaks site_before (sites l))
