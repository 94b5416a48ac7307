-- "Two lists with every height 0 give the plane's answers." (02 l)
use Rattle.std.specs.Prelude.{◌≡◌, List, ℕ}
use Rattle.site.specs.SiteList.{Columns, Plane, on_ground}
use Rattle.entry.specs.Results.{Results}
use Rattle.join.specs.declared.Join.{Join}
use Rattle.pairs.specs.KList.{k_list_answer}
use Rattle.pairs.specs.DistanceList.{distance_answer}
use Rattle.pairs.specs.Forecast.{forecast_answer}
use Rattle.customers.specs.declared.Grid.{Grid}
use Rattle.campaign.specs.Grid.{Job}
use Rattle.campaign.specs.Calls.{prepare_answer, open_answer, lower_answer, job_answer, status_answer}
use Rattle.batch.specs.Batch.{Batch, batch_answer}

-- What two lists of the plane are answered, they are answered with every height 0: refusals, counts and columns too.
pub record PlaneAnswers (a b : Columns) : Type 0 where
  pub k_lists :
      (way : Join) (k : ℕ) (r : Results) → k_list_answer way (on_ground a) (on_ground b) k r ≡ k_list_answer way a b k r
  pub distance_lists :
      (e : ℕ) (first second : List ℕ)
      → distance_answer (on_ground a) (on_ground b) e first second ≡ distance_answer a b e first second
  pub forecasts :
      (e : ℕ) (column : List ℕ) → forecast_answer (on_ground a) (on_ground b) e column ≡ forecast_answer a b e column
  pub preparings :
      (ends ends' : List ℕ) → prepare_answer (on_ground a) (on_ground b) ends ends' ≡ prepare_answer a b ends ends'
  pub openings :
      (customer : ℕ) (g : Grid) (k : ℕ) (ends ends' : List ℕ) (r : Results)
      → open_answer customer g (on_ground a) (on_ground b) k ends ends' r ≡ open_answer customer g a b k ends ends' r
  pub lowerings :
      (customer : ℕ) (g : Grid) (k : ℕ) (r : Results)
      → lower_answer customer g (on_ground a) (on_ground b) k r ≡ lower_answer customer g a b k r
  pub jobs :
      (way : Join) (customer : ℕ) (g : Grid) (r : Results) (j : Job)
      → job_answer way customer g (on_ground a) (on_ground b) r j ≡ job_answer way customer g a b r j
  pub batches :
      (customer : ℕ) (g : Grid) (r : Results) (l : Batch)
      → batch_answer customer g (on_ground a) (on_ground b) r l ≡ batch_answer customer g a b r l
  pub statuses :
      (customer : ℕ) (g : Grid) (r : Results)
      → status_answer customer g (on_ground a) (on_ground b) r ≡ status_answer customer g a b r

-- For all lists of the plane.
unfoldable pub HeightsOfZero : Type 0
HeightsOfZero = (a b : Columns) → Plane a → Plane b → PlaneAnswers a b
