-- The partners of a place of the first list, counted by its run.
use Rattle.std.proofs.Common.{◌≡◌, ℕ, ◌-◌, ◌<◌, true, leb, List, map, length, get_or, ℤ, pos, ◌∙◌, arith, le-leb}
use borrow.Author.Tests.{lt-leb}
use Rattle.order.proofs.Lists.{length_keep_run, length_keep_map, all_holds, all_at}
use Rattle.site.specs.Site.{within, gap}
use Rattle.pairs.specs.declared.Run.{Run}
use Rattle.pairs.specs.Forecast.{count_within}
use Rattle.pairs.specs.Internal.{Across, RunOf}
use Rattle.pairs.proofs.Offset.{far_left, far_right, near_x, run_ends}

pub across_at : {xs : List ℤ} → Across xs → (i : ℕ) → i < length xs → within (get_or xs i (pos 0)) ≡ true
across_at {xs} c i h = all_at (λ x. within x ≡ true) xs i (pos 0) h (all_holds within xs c.inside)

-- A reference has as many partners as its run has places.
pub run_partners : {a b : List ℤ} {e i : ℕ} {run : Run} → Across a → Across b → i < length a → RunOf a b e i run
    → count_within e (map (gap (get_or a i (pos 0))) b) ≡ run.right - run.left
unfolding count_within
run_partners {a} {b} {e} {i} {run} ca cb below r =
    let x = get_or a i (pos 0) in
    let here = across_at ca i below in
    length_keep_map (λ d. leb d e) (gap x) b
    ∙ length_keep_run (λ y. leb (gap x y) e) b (pos 0) run.left run.right (run_ends r) r.behind.right
    (λ k p.
    let there = across_at cb k (omega (arith, r.behind.left)) in
    lt-leb _ e (far_left x (get_or b k (pos 0)) e here there (r.behind.below k p)))
    (λ k p q.
    let inside : k < length b = omega (arith, r.behind.right) in
    le-leb _ e (near_x x (get_or b k (pos 0)) e here (across_at cb k inside) (r.behind.reached k q) (r.from k p inside)))
    (λ k p q. lt-leb _ e (far_right x (get_or b k (pos 0)) e here (across_at cb k q) (r.above k p q)))
