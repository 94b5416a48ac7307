-- `bands::judging::gather` meets its contract: `take` takes the band at each turn's place.
use Rattle.std.proofs.Common.{◌≡◌, ◌<◌, ◌≤◌, List, length, take, sym, ap, ◌∙◌, add-one, arith}
use lib.Seq.{length-take-le, get_or-take}
use Rattle.bands.specs.declared.Band.{Band}
use Rattle.bands.specs.Internal.{Tariff, begun}
use Rattle.bands.proofs.Gathered.{gathered_to, gathered_none, gathered_next, gathered_all, begun_few}
use Rattle.bands.proofs.judging.gather.Goals as goal

-- As many bands as are to be taken are there.
there : (bands : List Band) {t : Tariff} → t ≡ begun (length bands)
    → (length (take t.bands bands) ≡ t.bands) × (t.bands ≤ length bands) × (t.bands ≤ 64)
there bands e = let few = begun_few (length bands) in rw e (length-take-le _ bands few.0, few.0, few.1)

pub slice_bounds-band-items-end : goal.slice_bounds-band-items-end
slice_bounds-band-items-end c = sym (there _ c.begin-t.ensures).0

pub loop-i-init : goal.loop-i-init
loop-i-init c = c.begin-t.ensures ∙ sym (gathered_none _)

pub take-t-requires : goal.take-t-requires
take-t-requires c = omega (arith, there _ c.begin-t.ensures)

pub loop-i-preserved : goal.loop-i-preserved
loop-i-preserved c =
    let i = c.loop-i.i in
    let h : i < c.begin-t.result.bands = omega (arith, there _ c.begin-t.ensures) in
    let inside : i < length c.args.bands.now = omega (arith, there _ c.begin-t.ensures) in
    rw (c.take-t.ensures, c.loop-i.invariant, get_or-take _ _ i _ h, add-one) (sym (gathered_next _ _ _ inside))

pub returns : goal.returns
returns c =
    let h : c.loop-i.i ≡ c.begin-t.result.bands = omega (arith, there _ c.begin-t.ensures) in
    c.loop-i.invariant ∙ ap (gathered_to c.args.bands.now) (h ∙ ap (λ (t : Tariff). t.bands) c.begin-t.ensures) ∙ gathered_all c.args.bands.now
