-- Two lists with every height 0 give the answers of the plane.
use Rattle.plane.specs.Plane.{HeightsOfZero}
use Rattle.plane.proofs.PairLists.{k_list_same, distance_list_same, forecast_same}
use Rattle.plane.proofs.Campaigns.{prepare_same, open_same, lower_same, job_same, batch_same, status_same}

pub heights_of_zero : HeightsOfZero
unfolding HeightsOfZero
heights_of_zero a b p q = record {
  k_lists = k_list_same a b p q;
  distance_lists = distance_list_same a b p q;
  forecasts = forecast_same a b p q;
  preparings = prepare_same a b p q;
  openings = open_same a b p q;
  lowerings = lower_same a b p q;
  jobs = job_same a b p q;
  batches = batch_same a b p q;
  statuses = status_same a b p q;
}
