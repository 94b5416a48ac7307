-- Consulting a file through held starts, one test after another.
use mathlib.Core.Path.{◌≡◌, refl, sym, ◌∙◌}
use mathlib.Core.List.{List}
use Prim.Native.Nat.{ℕ, ◌+◌, ◌*◌, ◌≤◌, ◌<◌}
use native.Mathlib.Omega.{arith}
use borrow.Author.Tests.{le-leb, lt-leb, leb-false, eq-eqb, ne_eqb}
use lib.ListN.{length}
use Rattle.site.specs.Site.{Site}
use Rattle.site.specs.Answer.{refused, answered, answer_unless, or_else}
use Rattle.site.proofs.Answer.{answer_same, answer_refused, first_refused, or_else_second, no_fault}
use Rattle.site_file.specs.declared.Which.{Which}
use Rattle.site_file.specs.declared.Which.TheVariants.{First, Second}
use denote.Ref.{Bor}
use Rattle.site_file.specs.declared.Reader.{Reader}
use Rattle.site_file.specs.Bytes.{word}
use Rattle.site_file.specs.File.{start_in, count_in, site_in}
use Rattle.site_file.specs.Calls.{contents_refusal, site_refusal, site_answer}
use Rattle.site_file.specs.ReaderAnswer.{held_start, own_starts, reader_refusal, reader_answer}
use Rattle.site_file.proofs.ReadAnswer.{laid, inside, site_position}

-- Held starts that are the file's.
pub held_start_lem : (file : List ℕ) (w : Which) {a b first second : ℕ} → a ≡ word file 0 → a ≡ first → b ≡ word file 8
    → b ≡ second → held_start first second w ≡ start_in file w
unfolding held_start start_in
held_start_lem file First p e q f = sym e ∙ p
held_start_lem file Second p e q f = sym f ∙ q

module _ (file : List ℕ) (first second : ℕ) (w : Which) (place : ℕ) where
  pub held_refused : {r : ℕ} → r ≡ contents_refusal file → (r ≡ 0 → ⊥) → refused r ≡ reader_answer file first second w place
  unfolding reader_answer reader_refusal
  held_refused p h = answer_refused _ (first_refused _ p h) h

  module _ (p : 0 ≡ contents_refusal file) {a : ℕ} (pa : a ≡ word file 0) where
    pub held_first_wrong : (a ≡ first → ⊥) → refused 10 ≡ reader_answer file first second w place
    unfolding reader_answer reader_refusal own_starts start_in answer_unless or_else
    held_first_wrong h = rw (← p, ← pa, ne_eqb a first h)

    module _ (e : a ≡ first) {b : ℕ} (pb : b ≡ word file 8) where
      pub held_second_wrong : (b ≡ second → ⊥) → refused 10 ≡ reader_answer file first second w place
      unfolding reader_answer reader_refusal own_starts start_in answer_unless or_else
      held_second_wrong h = rw (← p, ← pa, eq-eqb a first e, ← pb, ne_eqb b second h)

      module _ (f : b ≡ second) {n : ℕ} (pn : n ≡ count_in file w) where
        pub held_past : n ≤ place → refused 8 ≡ reader_answer file first second w place
        unfolding reader_answer reader_refusal own_starts start_in answer_unless or_else
        held_past h = rw (← p, ← pa, eq-eqb a first e, ← pb, eq-eqb b second f, ← pn, le-leb n place h)

        pub held_found : place < n → {k : ℕ} {s : Site} → k ≡ held_start first second w
            → s ≡ site_in file (k + 12 * place) → answered s ≡ reader_answer file first second w place
        unfolding reader_answer reader_refusal own_starts start_in answer_unless or_else
        held_found h pk ps =
            rw (
              ← p,
              ← pa,
              eq-eqb a first e,
              ← pb,
              eq-eqb b second f,
              ← pn,
              lt-leb n place h,
              ← pk,
              ← ps,
            )

        pub held_reach : place < n → {k : ℕ} → k ≡ held_start first second w
            → (k + 12 * place + 12 ≤ length file) × (length file ≤ 1_572_856)
        held_reach h pk =
            let g = inside file w (laid file (sym p)) in
            let start = held_start_lem file w pa e pb f in (omega arith, g.small)

-- Through its own starts a file is consulted as by itself.
own_start : (file : List ℕ) (w : Which) → held_start (start_in file First) (start_in file Second) w ≡ start_in file w
unfolding held_start
own_start file First = refl
own_start file Second = refl

place_inside : (file : List ℕ) (w : Which) (place : ℕ) → site_refusal file w place ≡ 0 → place < count_in file w
unfolding site_refusal
place_inside file w place none = leb-false _ _ (no_fault _ 7 (or_else_second (contents_refusal file) _ none))

pub held_own : (file : List ℕ) (w : Which) (place : ℕ)
    → reader_answer file (start_in file First) (start_in file Second) w place ≡ site_answer file w place
unfolding reader_answer reader_refusal site_answer site_refusal own_starts or_else
held_own file w place =
    rw (
      eq-eqb (start_in file First) (start_in file First) refl,
      eq-eqb (start_in file Second) (start_in file Second) refl,
      own_start file w,
    )
    (answer_same (site_refusal file w place) (λ none. sym (site_position file w place (place_inside file w place none))))

-- A reader that holds a file and its own starts.
pub held_by : (r : Reader) (s : Bor (List ℕ)) (w : Which) (place : ℕ) → r.file ≡ s → r.first ≡ start_in s.now First
    → r.second ≡ start_in s.now Second
    → reader_answer r.file.now r.first r.second w place ≡ site_answer s.now w place
held_by r s w place e f g = rw (e, f, g) (held_own s.now w place)
