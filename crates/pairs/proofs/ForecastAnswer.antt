-- What a forecast answers.
use Rattle.std.specs.Prelude.{Ok, Err}
use Rattle.std.proofs.Common.{◌≡◌, ℕ, ◌<◌, ◌≤◌, Bool, leb, List, [], ◌∷◌, map, length, ℤ, sym, refl, ap, ◌∙◌, ap₂, arith, length-append, ltb-false, le-ltb, lt-ltb}
use mathlib.Core.List.{map-map}
use Rattle.order.specs.Lists.{keep, sum}
use Rattle.order.proofs.Lists.{keep_append}
use Rattle.site.specs.declared.refusals.Refusal.{Refusal}
use Rattle.site.specs.Answer.{afterwards, number, answer_of}
use Rattle.site.specs.Site.{Site, gap}
use Rattle.site.specs.SiteList.{Columns, sites}
use Rattle.site.specs.Refusal.{list_refusal, lists_refusal}
use Rattle.site.proofs.SiteList.{sites_x}
use Rattle.site.proofs.Answer.{
  refusal_numbered,
  result_ok,
  result_err,
  after_err,
  after_answered,
  first_refused,
  next_decides,
  or_else_first,
  or_else_second,
  no_fault,
}
use Rattle.site.proofs.Accepted.{accepted_level, accepted_length, accepted_coordinates, both_accepted}
use Rattle.sweep.specs.Strip.{product}
use Rattle.sweep.proofs.ProductLaws.{product_nil, product_cons}
use Rattle.pairs.specs.Forecast.{
  count_within,
  x_gap,
  forecast_total,
  forecast_partners,
  forecast_refusal,
  forecast_values,
  forecast_answer,
}
use Rattle.pairs.specs.Internal.{Across, partners_across, PartnersWritten}
use Rattle.pairs.proofs.Offset.{across}

-- ---- of any sites

-- The total is the sum of the places' numbers.
count_product : {A B : Type 0} (e : ℕ) (f : A → B → ℕ) (p : List A) (q : List B)
    → count_within e (product f p q) ≡ sum (map (λ s. count_within e (map (f s) q)) p)
unfolding count_within sum keep
count_product e f [] q = rw (product_nil f q)
count_product e f (s ∷ p) q =
    let test : ℕ → Bool = λ d. leb d e in
    let row = map (f s) q in
    rw (product_cons f s p q, keep_append test row (product f p q), length-append (keep test row) (keep test (product f p q)))
    (omega (arith, count_product e f p q))

pub total_sums : (e : ℕ) (a b : List Site) → forecast_total e a b ≡ sum (forecast_partners e a b)
unfolding forecast_total forecast_partners
total_sums e a b = count_product e x_gap a b

-- A forecast reads the x alone.
pub partners_across_lem : (e : ℕ) (a b : List Site)
    → forecast_partners e a b ≡ partners_across e (map (λ s. s.x) a) (map (λ s. s.x) b)
unfolding forecast_partners partners_across
partners_across_lem e a b =
    let xs = map (λ s. s.x) b in
    let each : (x : ℤ) → map (λ (t : Site). gap x t.x) b ≡ map (gap x) xs = λ x. sym (map-map (gap x) (λ s. s.x) b) in
    (λ i. map (λ s. count_within e (each s.x i)) a) ∙ sym (map-map (λ x. count_within e (map (gap x) xs)) (λ s. s.x) a)

-- Sites replaced by others of the same x.
module _ (e : ℕ) (f : Site → Site) (same : (s : Site) → (f s).x ≡ s.x) (a b : List Site) where
  xs_alike : (l : List Site) → map (λ s. s.x) (map f l) ≡ map (λ s. s.x) l
  xs_alike l = map-map (λ s. s.x) f l ∙ (λ i. map (λ s. same s i) l)

  pub partners_alike : forecast_partners e (map f a) (map f b) ≡ forecast_partners e a b
  partners_alike =
      partners_across_lem e (map f a) (map f b) ∙ ap₂ (partners_across e) (xs_alike a) (xs_alike b) ∙ sym (partners_across_lem e a b)

  pub total_alike : forecast_total e (map f a) (map f b) ≡ forecast_total e a b
  total_alike = total_sums e (map f a) (map f b) ∙ ap sum partners_alike ∙ sym (total_sums e a b)

-- ---- of two lists

module _ (a b : Columns) (column : List ℕ) where
  -- The refusal, by its tests.
  pub lists_refused : (r : Refusal) → number r ≡ lists_refusal a b → number r ≡ forecast_refusal a b column
  unfolding forecast_refusal
  lists_refused r p = first_refused _ p (refusal_numbered r)

  module _ (none : lists_refusal a b ≡ 0) where
    size : length (sites a) ≡ length a.x
    size = accepted_length a (both_accepted a b none).0

    pub too_short : length column < length a.x → 6 ≡ forecast_refusal a b column
    unfolding forecast_refusal
    too_short h = next_decides refl none (rw (size, lt-ltb (length column) (length a.x) h))

    pub room : length a.x ≤ length column → 0 ≡ forecast_refusal a b column
    unfolding forecast_refusal
    room h = next_decides refl none (rw (size, le-ltb (length column) (length a.x) h))

  -- What no refusal tells.
  module _ (ok : forecast_refusal a b column ≡ 0) where
    pub accepted_lists : (list_refusal a ≡ 0) × (list_refusal b ≡ 0)
    unfolding forecast_refusal
    accepted_lists = both_accepted a b (or_else_first _ _ ok)

    accepted_room : length (sites a) ≤ length column
    unfolding forecast_refusal
    accepted_room = ltb-false _ _ (no_fault _ 5 (or_else_second (lists_refusal a b) _ ok))

    pub accepted : Across a.x × Across b.x × (length a.x ≤ length column)
    accepted =
        let l = accepted_lists in (
          across (accepted_coordinates a l.0),
          across (accepted_coordinates b l.1),
          omega (arith, accepted_room, accepted_length a l.0),
        )

    partners_are : (e : ℕ) → forecast_partners e (sites a) (sites b) ≡ partners_across e a.x b.x
    partners_are e =
        let l = accepted_lists in
        partners_across_lem e (sites a) (sites b)
        ∙ ap₂ (partners_across e) (sites_x a (accepted_level a l.0)) (sites_x b (accepted_level b l.1))

  -- The answer and the column.
  pub refused_is : (e : ℕ) (r : Refusal) → number r ≡ forecast_refusal a b column
      → (answer_of (forecast_values column) (Err r) ≡ forecast_answer a b e column)
      × (column ≡ afterwards (λ v. v.partners) (forecast_answer a b e column) column)
  unfolding forecast_answer
  refused_is e r p =
      let values = forecast_values column in (result_err values _ r p, after_err values (λ v. v.partners) _ column r p)

  pub answered_is : {e n : ℕ} {after : List ℕ} → forecast_refusal a b column ≡ 0 → PartnersWritten a.x b.x e column after n
      → (answer_of (forecast_values after) (Ok n) ≡ forecast_answer a b e column)
      × (after ≡ afterwards (λ v. v.partners) (forecast_answer a b e column) column)
  unfolding forecast_answer
  answered_is {e} {n} {after} ok w =
      let same = partners_are ok e in
      let held : after ≡ _ = rw (← same) at w.column in
      let total : n ≡ forecast_total e (sites a) (sites b) = (rw (← same) at w.total) ∙ sym (total_sums e (sites a) (sites b)) in (
        result_ok (forecast_values after) n ok (λ i. forecast_values (held i) (total i)),
        held ∙ after_answered (λ v. v.partners) _ column ok,
      )
