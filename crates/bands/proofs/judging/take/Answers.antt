-- `bands::take` meets its contract: too high a price is told before all, then what was told before, then the band's own.
use Rattle.std.proofs.Common.{◌≡◌, ℕ, ltb, leb, cond, refl, arith}
use Rattle.std.proofs.lemmas.Bool.Decides.{nat_tests}
use Rattle.std.specs.Prelude.{Result, Ok, Err}
use Rattle.std.specs.Result.{result_and}
use Rattle.site.specs.declared.refusals.Refusal.{Refusal}
use Rattle.site.specs.Answer.{number, refusal_of, refuse_if, or_else}
use Rattle.site.specs.Site.{square}
use Rattle.site.proofs.Answer.{refusal_numbered, or_some}
use Rattle.bands.specs.Bands.{lawful_price}
use Rattle.bands.specs.Internal.{taken}
use Rattle.bands.proofs.judging.take.Goals as goal

-- The first of two refusals.
first_of : {A B : Type 0} (r : Result A Refusal) (s : Result B Refusal)
    → refusal_of (result_and r s) ≡ or_else (refusal_of r) (refusal_of s)
unfolding refusal_of or_else
first_of (Ok v) s = refl
first_of (Err r) s = rw (or_some (number r) (refusal_of s) (refusal_numbered r))

-- The three, the first by a test.
told_first : (limit price before own : ℕ)
    → or_else (or_else (refuse_if (ltb limit price) 14) before) own ≡ cond (leb price limit) (or_else before own) 14
unfolding or_else
told_first limit price before own = grind (arith, nat_tests)

pub returns : goal.returns
unfolding taken square lawful_price number
returns c =
    let t = c.args.tariff in
    let told : refusal_of c.and-tariff.result
    ≡ cond (leb c.args.band.price 1_000_000) (or_else (refusal_of t.refusal) (refusal_of c.judge-own.result)) 14 =
    rw (
      c.and-tariff.ensures,
      first_of c.and.result c.judge-own.result,
      c.and.ensures,
      first_of c.refuse_if-dear.result t.refusal,
      c.refuse_if-dear.ensures,
    )
    (told_first 1_000_000 c.args.band.price (refusal_of t.refusal) (refusal_of c.judge-own.result)) in
    rw (told, c.judge-own.ensures)
