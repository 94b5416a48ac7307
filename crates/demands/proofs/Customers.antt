-- The customers apart: what each is told, and two histories.
use mathlib.Core.Path.{◌≡◌, refl, sym, ap, ap₂, ◌∙◌}
use mathlib.Core.Bool.{true, false, and-false}
use mathlib.Core.List.{List, [], ◌∷◌}
use Prim.Native.Nat.{ℕ, zero, suc}
use native.Mathlib.Omega.{arith}
use lib.Dec.{leb, eqb}
use borrow.Author.Tests.{lt-leb, eqb-true, eqb-false, eq-eqb, ne_eqb}
use Rattle.order.specs.Lists.{keep}
use Rattle.order.proofs.Order.{by_test, never_both}
use Rattle.site.specs.Answer.{Answer, refused, answered, answer_unless, afterwards, or_else}
use Rattle.site.specs.Site.{Site}
use Rattle.site.specs.SiteList.{Columns, sites}
use Rattle.site.proofs.Answer.{answered_values}
use Rattle.entry.specs.Entry.{k_up_to, lawful_k}
use Rattle.entry.specs.Results.{Results, below}
use Rattle.join.specs.Join.{Counts}
use Rattle.customers.specs.declared.Campaign.{Campaign}
use Rattle.customers.specs.declared.Grid.{Grid}
use Rattle.customers.specs.Customers.{is_customer, campaign_as}
use Rattle.campaign.specs.Soundness.{sound, customer_refusal, caller_refusal, keeper_refusal, campaign_refusal}
use Rattle.campaign.specs.Calls.{prepare_refusal, prepared, prepare_answer, open_answer, lower_refusal, lower_answer, job_refusal, job_answer, status_answer}
use Rattle.batch.specs.Batch.{rows_of, batch_refusal, no_job, batch_answer}
use Rattle.campaign.proofs.CustomerLaws.{prepared_lawful}
use Rattle.demands.specs.Customers.{Reading, reading_of, reading, Act, opening, lowering, job, batch, status, Told, grid, done, all_done, Success, success, map_answer, answer_to, told, grid_after, columns_after, Alike, ToldByOwn, OtherStays, BeforeOpening, MarksStay, PreparedGrid}
use Rattle.demands.specs.Customers.{Call, preparing, by, State, state_of, state_after, concerns, told_by, heard, HistoriesAgree, CustomersApart}
use Rattle.demands.specs.SmallerK.{entries_told}
use Rattle.demands.proofs.GridAfter.{grid_lawful, campaign_kept}
use Rattle.demands.proofs.Readings.{SameColumns, opening_read, lowering_read, campaign_read, job_read, batch_read, opened_reading, lowered_reading, status_read, SameLeft, done_left, rows_left}

-- ---- what a customer is told

-- On two grids alike, with columns in which a call finds the same.
module _ {customer : ℕ} {g h : Grid} (alike : Alike customer g h) {r r' : Results}
    (even : SameColumns (campaign_as customer h).entries r r') where
  -- Two successes that tell the customer the same, the columns as far as the entries go, and leave the same to read; from the
  -- same columns they tell and leave the same.
  record SameSuccess (s t : Success) : Type 0 where
    told : entries_told s.told ≡ entries_told t.told
    whole : r ≡ r' → (s.told ≡ t.told) × (s.columns ≡ t.columns)
    read : reading customer s.grid ≡ reading customer t.grid

  -- So of two answers.
  Same : Answer Success → Answer Success → Type 0
  Same p q =
      (map_answer entries_told (map_answer (λ v. v.told) p) ≡ map_answer entries_told (map_answer (λ v. v.told) q))
      × (r ≡ r'
      → (map_answer (λ v. v.told) p ≡ map_answer (λ v. v.told) q)
      × (afterwards (λ v. v.columns) p r ≡ afterwards (λ v. v.columns) q r'))
      × (reading customer (afterwards (λ v. v.grid) p g) ≡ reading customer (afterwards (λ v. v.grid) q h))

  same_answers : {A : Type 0} (f f' : A → Success) {n m : ℕ} (v w : A) → n ≡ m → SameSuccess (f v) (f' w)
      → Same (map_answer f (answer_unless n v)) (map_answer f' (answer_unless m w))
  unfolding Same map_answer afterwards answer_unless
  same_answers f f' {m = zero} v w e s =
      rw e (ap answered s.told, λ z. (ap answered (s.whole z).0, (s.whole z).1), s.read)
  same_answers f f' {m = suc m} v w e s = rw e (refl, λ z. (refl, z), alike.read)

  -- A success that writes no column.
  same_silent : {x y : Grid} {t t' : Told} → t ≡ t' → reading customer x ≡ reading customer y
      → SameSuccess (success x r t) (success y r' t')
  same_silent e reads = record { told = ap entries_told e; whole = λ z. (e, z); read = reads }

  -- One job, or several: `tell` is how they are told.
  same_written : (tell : Reading → Results → ℕ → Counts → Told)
      → ((read : Reading) (p : Results) (n : ℕ) (counts : Counts)
      → entries_told (tell read p n counts) ≡ tell read (below read.entries p) n counts)
      → {x y : Grid} {p q : Results} {n m : ℕ} {counts counts' : Counts} → SameLeft customer (r ≡ r') x y p q → n ≡ m
      → counts ≡ counts'
      → SameSuccess (success x p (tell (reading customer x) p n counts))
      (success y q (tell (reading customer y) q m counts'))
  same_written tell entries {y} {p} {q} {m} {counts'} left e f =
      let read = reading customer y in
      rw (e, f, left.read) (record {
        told =
            entries read p m counts'
            ∙ ap (λ (c : Results). tell read c m counts') left.shown
            ∙ sym (entries read q m counts');
        whole = λ z. (ap (λ (c : Results). tell read c m counts') (left.whole z), left.whole z);
        read = left.read;
      })

  -- What both have before their jobs.
  start : SameLeft customer (r ≡ r') g h r r'
  unfolding reading reading_of
  start = record { read = alike.read; shown = even.shown; whole = λ z. z }

  same_act : (a b : Columns) (act : Act) → Same (answer_to customer g a b r act) (answer_to customer h a b r' act)
  unfolding answer_to open_answer lower_answer job_answer batch_answer status_answer entries_told
  same_act a b (opening k ends ends') =
      let reads = opened_reading alike k in
      same_answers _ _ _ _ (opening_read alike even a b k ends ends') (same_silent (ap grid reads) reads)
  same_act a b (lowering k) =
      let reads = lowered_reading alike k in
      same_answers _ _ _ _ (lowering_read alike even a b k) (same_silent (ap grid reads) reads)
  same_act a b (job j way) =
      let w = done_left start (sites a) (sites b) way j in
      same_answers _ _ _ _ (job_read alike even a b j)
      (same_written done (λ read p n counts. refl) w.0 w.1 w.2)
  same_act a b (batch l) =
      let w = rows_left (no_job g r) (no_job h r') start refl refl (sites a) (sites b) (rows_of l) in
      same_answers _ _ _ _ (batch_read alike even a b l)
      (same_written all_done (λ read p n counts. refl) w.0 w.1 w.2)
  same_act a b status =
      same_answers _ _ _ _ (campaign_read alike even a b) (same_silent (status_read alike) alike.read)

  pub same_told : (a b : Columns) (act : Act)
      → map_answer entries_told (told customer g a b r act) ≡ map_answer entries_told (told customer h a b r' act)
  unfolding told Same
  same_told a b act = (same_act a b act).0

-- What a customer is told depends on what is the same on grids alike.
told_by_own : ToldByOwn
unfolding ToldByOwn told columns_after grid_after Same
told_by_own customer g h alike a b r act =
    let even : SameColumns (campaign_as customer h).entries r r = record { shown = refl; room = λ k. refl } in
    let same = same_act alike even a b act in
    let lawful = grid_lawful customer g a b r act ∙ alike.lawful ∙ sym (grid_lawful customer h a b r act) in (
      (same.1 refl).0,
      (same.1 refl).1,
      record { read = same.2; lawful = lawful },
    )

other_stays : OtherStays
unfolding OtherStays reading
other_stays customer other known apart g a b r act = ap reading_of (campaign_kept customer other g a b r act known apart)

-- ---- before opening

-- With a K of 0 a campaign is never without fault.
not_sound : (c : Campaign) (a b : List Site) (r : Results) → c.k ≡ 0 → sound c a b r ≡ false
unfolding sound lawful_k
not_sound c a b r h = rw h

-- Nor is there a smaller K.
none_lower : (k : ℕ) → k_up_to 0 k ≡ false
none_lower zero = refl
none_lower (suc k) = rw (lt-leb (suc k) 0 (omega arith)) (and-false (leb 1 (suc k)))

before_opening : BeforeOpening
unfolding
    BeforeOpening reading reading_of told answer_to lower_answer job_answer batch_answer status_answer lower_refusal job_refusal
    batch_refusal campaign_refusal customer_refusal caller_refusal keeper_refusal map_answer answer_unless or_else
before_opening customer known g none a b lists r =
    let unsound = not_sound (campaign_as customer g) (sites a) (sites b) r none in (
      λ j way. simp (known, lists, unsound, and-false),
      λ l. simp (known, lists, unsound, and-false),
      simp (known, lists, unsound, and-false),
      λ k. simp (known, lists, none, none_lower k),
    )

prepared_grid : PreparedGrid
unfolding PreparedGrid prepare_answer reading reading_of campaign_as prepared
prepared_grid a b ends ends' g ok =
    rw (← (answered_values (prepare_refusal a b ends ends') (prepared ends ends') g ok).1)
    (prepared_lawful ends ends', λ customer. by_test (eqb customer 1) (λ t. rw t) (λ f. rw f))

-- ---- two histories

module _ (customer : ℕ) (known : is_customer customer ≡ true) where
  -- Two states in which the customer reads the same and has the same columns.
  record Even (s t : State) : Type 0 where
    grids : Alike customer s.grid t.grid
    mine : s.columns customer ≡ t.columns customer

  even_start : (g : Grid) (columns columns' : ℕ → Results) → columns customer ≡ columns' customer
      → Even (state_of g columns) (state_of g columns')
  even_start g columns columns' mine = record { grids = record { read = refl; lawful = refl }; mine = mine }

  -- A preparing leaves two grids alike.
  alike_prepared : {g h : Grid} → Alike customer g h → (answer : Answer Grid)
      → Alike customer (afterwards (λ x. x) answer g) (afterwards (λ x. x) answer h)
  unfolding afterwards
  alike_prepared alike (refused number) = alike
  alike_prepared alike (answered g) = record { read = refl; lawful = refl }

  -- The customer's own call tells the same in both, and leaves them even.
  even_own : {s t : State} → Even s t → (a b : Columns) (act : Act)
      → (told customer s.grid a b (s.columns customer) act ≡ told customer t.grid a b (t.columns customer) act)
      × Even (state_after s (by customer a b act)) (state_after t (by customer a b act))
  unfolding state_after ToldByOwn
  even_own {s} {t} e a b act =
      let w = told_by_own customer s.grid t.grid e.grids a b (t.columns customer) act in
      rw e.mine (w.0, record { grids = w.2; mine = rw (eq-eqb customer customer refl) w.1 })

  -- So does any call that concerns them.
  even_told : {s t : State} → Even s t → (c : Call) → concerns customer c ≡ true
      → (told_by customer s c ≡ told_by customer t c) × Even (state_after s c) (state_after t c)
  unfolding concerns told_by state_after
  even_told e (preparing a b ends ends') h =
      (refl, record { grids = alike_prepared e.grids (prepare_answer a b ends ends'); mine = e.mine })
  even_told e (by n a b act) h = rw (eqb-true n customer h) (even_own e a b act)

  -- Any other leaves its state even with what it was even with.
  even_after : {s t : State} → Even s t → (c : Call) → concerns customer c ≡ false → Even (state_after s c) t
  unfolding concerns state_after reading
  even_after e (preparing a b ends ends') h = never_both refl h
  even_after {s} e (by n a b act) h =
      let apart = eqb-false n customer h in
      let r = s.columns n in
      record {
        grids = record {
          read = rw (campaign_kept customer n s.grid a b r act known apart) e.grids.read;
          lawful = grid_lawful n s.grid a b r act ∙ e.grids.lawful;
        };
        mine = rw (ne_eqb customer n (λ z. apart (sym z))) e.mine;
      }

  -- What the customer hears is what they hear of the calls that concern them.
  heard_kept : {s t : State} → Even s t → (calls : List Call)
      → heard customer s calls ≡ heard customer t (keep (concerns customer) calls)
  unfolding heard keep
  heard_kept e [] = refl
  heard_kept {s = s} {t = t} e (c ∷ l) =
      by_test (concerns customer c)
      (λ yes.
      let w = even_told e c yes in
      simp yes (ap₂ (λ (x : Answer Told) (r : List (Answer Told)). x ∷ r) w.0 (heard_kept {s = state_after s c} {t = state_after t c} w.1 l)))
      (λ no. simp no (heard_kept {s = state_after s c} {t = t} (even_after e c no) l))

histories_agree : HistoriesAgree
unfolding HistoriesAgree
histories_agree customer known a b ends ends' g ok columns columns' mine calls calls' same =
    heard_kept customer known (even_start customer known g columns columns' mine) calls
    ∙ ap (heard customer (state_of g columns')) same
    ∙ sym (heard_kept customer known (even_start customer known g columns' columns' refl) calls')

pub customers_apart : CustomersApart
unfolding MarksStay
customers_apart =
    record {
      before_opening = before_opening;
      other_stays = other_stays;
      told_by_own = told_by_own;
      marks_stay = grid_lawful;
      prepared_grid = prepared_grid;
      histories = histories_agree;
    }
