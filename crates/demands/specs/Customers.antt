-- The two customers of one grid: what each reads and is told, and what the other's calls leave of it. (02 e)
use Rattle.std.specs.Prelude.{◌≡◌, Bool, true, cond, List, [], ◌∷◌, ℕ, eqb}
use Rattle.order.specs.Lists.{keep}
use Rattle.site.specs.Answer.{Answer, refused, answered, afterwards}
use Rattle.site.specs.SiteList.{Columns}
use Rattle.site.specs.Refusal.{lists_refusal}
use Rattle.entry.specs.Results.{Results}
use Rattle.join.specs.declared.Join.{Join}
use Rattle.join.specs.Join.{Counts}
use Rattle.customers.specs.declared.Campaign.{Campaign}
use Rattle.customers.specs.declared.Grid.{Grid}
use Rattle.customers.specs.Customers.{is_customer, campaign_as}
use Rattle.campaign.specs.Grid.{Job}
use Rattle.campaign.specs.Soundness.{first_ends, second_ends, lawful_grid}
use Rattle.campaign.specs.Calls.{prepare_answer, open_answer, lower_answer, job_answer, StatusValues, status_answer}
use Rattle.batch.specs.Batch.{Batch, batch_answer}

-- "a customer reads the ends and their own K, marks and entry count": of the ends, for each list, those in use.
pub record Reading : Type 0 where
  pub strips : ℕ
  pub strips' : ℕ
  pub ends : List ℕ
  pub ends' : List ℕ
  pub k : ℕ
  pub entries : ℕ
  pub marks : List ℕ

unfoldable pub reading_of : Campaign → Reading
reading_of c =
    record {
      strips = c.first_strips;
      strips' = c.second_strips;
      ends = first_ends c;
      ends' = second_ends c;
      k = c.k;
      entries = c.entries;
      marks = c.marks;
    }

unfoldable pub reading : ℕ → Grid → Reading
reading customer g = reading_of (campaign_as customer g)

-- A customer's call, beside the grid, the two lists and the columns that it gets: an opening with its K and ends, a
-- lowering to a smaller K, a job by any of the three ways, several jobs in one call, or status.
pub data Act : Type 0 where
  opening : ℕ → List ℕ → List ℕ → Act
  lowering : ℕ → Act
  job : Job → Join → Act
  batch : Batch → Act
  status : Act

-- What a success tells: an opening, a lowering or a preparing the grid, a job the grid, its columns, whether it was swept,
-- and its counts; several jobs in one call the grid, the columns, how many were skipped, and the sums of counts. "nothing
-- else in it counts as told": of the grid, what the customer reads.
pub data Told : Type 0 where
  grid : Reading → Told
  done : Reading → Results → ℕ → Counts → Told
  all_done : Reading → Results → ℕ → Counts → Told
  counted : StatusValues → Told

-- A success: the grid and the columns that it leaves, and what it tells.
pub record Success : Type 0 where
  pub grid : Grid
  pub columns : Results
  pub told : Told

abbrev pub success : Grid → Results → Told → Success
success g r told = record { grid = g; columns = r; told = told }

-- An answer with other values; a refusal stays as it is.
unfoldable pub map_answer : {A B : Type 0} → (A → B) → Answer A → Answer B
map_answer f (refused number) = refused number
map_answer f (answered values) = answered (f values)

-- What a customer's call answers, by its own answer.
unfoldable pub answer_to : ℕ → Grid → Columns → Columns → Results → Act → Answer Success
answer_to customer g a b r (opening k ends ends') =
    map_answer (λ g'. success g' r (grid (reading customer g'))) (open_answer customer g a b k ends ends' r)
answer_to customer g a b r (lowering k) =
    map_answer (λ g'. success g' r (grid (reading customer g'))) (lower_answer customer g a b k r)
answer_to customer g a b r (job j way) =
    map_answer
    (λ v. success v.grid v.results (done (reading customer v.grid) v.results v.swept v.counts))
    (job_answer way customer g a b r j)
answer_to customer g a b r (batch l) =
    map_answer
    (λ v. success v.grid v.results (all_done (reading customer v.grid) v.results v.skipped v.counts))
    (batch_answer customer g a b r l)
answer_to customer g a b r status = map_answer (λ v. success g r (counted v)) (status_answer customer g a b r)

-- "Everything a customer is told, refusals included"; and the grid and the columns after the call.
unfoldable pub told : ℕ → Grid → Columns → Columns → Results → Act → Answer Told
told customer g a b r act = map_answer (λ v. v.told) (answer_to customer g a b r act)

unfoldable pub grid_after : ℕ → Grid → Columns → Columns → Results → Act → Grid
grid_after customer g a b r act = afterwards (λ v. v.grid) (answer_to customer g a b r act) g

unfoldable pub columns_after : ℕ → Grid → Columns → Columns → Results → Act → Results
columns_after customer g a b r act = afterwards (λ v. v.columns) (answer_to customer g a b r act) r

-- ---- what a customer is told

-- "a customer's other calls before opening get 7", their K being 0, and 15 and the lists' 1 to 3 coming first; a
-- lowering gets "4, before opening too". (02 j)
unfoldable pub BeforeOpening : Type 0
BeforeOpening =
    (customer : ℕ) → is_customer customer ≡ true → (g : Grid) → (reading customer g).k ≡ 0
    → (a b : Columns) → lists_refusal a b ≡ 0 → (r : Results)
    → ((j : Job) (way : Join) → told customer g a b r (job j way) ≡ refused 7)
    × ((l : Batch) → told customer g a b r (batch l) ≡ refused 7)
    × (told customer g a b r status ≡ refused 7)
    × ((k : ℕ) → told customer g a b r (lowering k) ≡ refused 4)

-- "Opening as one customer clears that customer's marks and entry count only": what a customer reads stays at an opening, and
-- at any other call, by another number.
unfoldable pub OtherStays : Type 0
OtherStays =
    (customer other : ℕ) → is_customer customer ≡ true → (other ≡ customer → ⊥)
    → (g : Grid) (a b : Columns) (r : Results) (act : Act)
    → reading customer (grid_after other g a b r act) ≡ reading customer g

-- The same to a customer: "the ends, their own K, marks, entry count", and "whether all marks are within 0 to 3 and
-- inside the jobs".
pub record Alike (customer : ℕ) (g h : Grid) : Type 0 where
  pub read : reading customer g ≡ reading customer h
  pub lawful : lawful_grid g ≡ lawful_grid h

-- "Everything a customer is told, refusals included, depends only on their call, the lists", their columns, and what two grids
-- alike share; and so do their columns and what they read afterwards. For any number: one that is no customer's is told 15.
unfoldable pub ToldByOwn : Type 0
ToldByOwn =
    (customer : ℕ) (g h : Grid) → Alike customer g h → (a b : Columns) (r : Results) (act : Act)
    → (told customer g a b r act ≡ told customer h a b r act)
    × (columns_after customer g a b r act ≡ columns_after customer h a b r act)
    × Alike customer (grid_after customer g a b r act) (grid_after customer h a b r act)

-- "whether all marks are within 0 to 3 and inside the jobs, which no call can upset": no customer's, accepted or refused, ..
unfoldable pub MarksStay : Type 0
MarksStay =
    (customer : ℕ) (g : Grid) (a b : Columns) (r : Results) (act : Act)
    → lawful_grid (grid_after customer g a b r act) ≡ lawful_grid g

-- .. and no preparing, after which neither customer has opened.
unfoldable pub PreparedGrid : Type 0
PreparedGrid =
    (a b : Columns) (ends ends' : List ℕ) (g : Grid) → prepare_answer a b ends ends' ≡ answered g
    → (lawful_grid g ≡ true)
    × ((customer : ℕ) → (reading customer g).k ≡ 0)

-- ---- two histories

-- A call, with the lists that it gets: a preparing, or a call by a customer number.
pub data Call : Type 0 where
  preparing : Columns → Columns → List ℕ → List ℕ → Call
  by : ℕ → Columns → Columns → Act → Call

-- The grid, and the result columns of each customer.
pub record State : Type 0 where
  pub grid : Grid
  pub columns : ℕ → Results

abbrev pub state_of : Grid → (ℕ → Results) → State
state_of g columns = record { grid = g; columns = columns }

-- "each call getting the grid and its customer's columns as last left": what it leaves of them.
unfoldable pub state_after : State → Call → State
state_after s (preparing a b ends ends') =
    state_of (afterwards (λ g. g) (prepare_answer a b ends ends') s.grid) s.columns
state_after s (by customer a b act) =
    let mine = s.columns customer in
    state_of (grid_after customer s.grid a b mine act)
    (λ n. cond (eqb n customer) (columns_after customer s.grid a b mine act) (s.columns n))

-- "preparings and that customer's calls".
unfoldable pub concerns : ℕ → Call → Bool
concerns customer (preparing a b ends ends') = true
concerns customer (by n a b act) = eqb n customer

-- What a customer is told by a call that concerns them.
unfoldable pub told_by : ℕ → State → Call → Answer Told
told_by customer s (preparing a b ends ends') = map_answer (λ g. grid (reading customer g)) (prepare_answer a b ends ends')
told_by customer s (by n a b act) = told n s.grid a b (s.columns n) act

-- The answers to a customer, one after the other.
unfoldable pub heard : ℕ → State → List Call → List (Answer Told)
heard customer s [] = []
heard customer s (c ∷ l) =
    let later = heard customer (state_after s c) l in
    cond (concerns customer c) (told_by customer s c ∷ later) later

-- "Two histories from one accepted preparing .. that agree on the lists, one customer's starting columns and the one sequence
-- of preparings and that customer's calls, give that customer the same answers, however the other's calls differ."
unfoldable pub HistoriesAgree : Type 0
HistoriesAgree =
    (customer : ℕ) → is_customer customer ≡ true
    → (a b : Columns) (ends ends' : List ℕ) (g : Grid) → prepare_answer a b ends ends' ≡ answered g
    → (columns columns' : ℕ → Results) → columns customer ≡ columns' customer
    → (calls calls' : List Call) → keep (concerns customer) calls ≡ keep (concerns customer) calls'
    → heard customer (state_of g columns) calls ≡ heard customer (state_of g columns') calls'

-- The customers apart, whole.
pub record CustomersApart : Type 0 where
  pub before_opening : BeforeOpening
  pub other_stays : OtherStays
  pub told_by_own : ToldByOwn
  pub marks_stay : MarksStay
  pub prepared_grid : PreparedGrid
  pub histories : HistoriesAgree
