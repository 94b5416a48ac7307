-- M1 to M10 hold: the definitions are evaluated.
use mathlib.Core.Path.{refl}
use mathlib.Core.List.{flat_map, zip_with}
use Rattle.order.specs.Sort.{insert, sort}
use Rattle.order.specs.Lists.{all, keep, last, sum}
use Rattle.order.specs.Order.{ascending, first_of, foremost, lex}
use Rattle.column.specs.Column.{overwritten}
use Rattle.site.specs.Answer.{afterwards, answer_unless, or_else}
use Rattle.site.specs.Refusal.{content_refusal, equal_lengths, list_refusal, lists_refusal, size_fault}
use Rattle.site.specs.Site.{all_within, between, gap, height_within, lawful_site, site_before, square, squared_distance, within}
use Rattle.site.specs.SiteList.{columns_of, site_at, sites, with_columns}
use Rattle.entry.specs.Entry.{apart, best_k, last_distance, lawful_k, offer, rank_before}
use Rattle.entry.specs.Results.{entries_of, holding, room_for}
use Rattle.boxes.specs.Box.{box_around, box_of, coordinate_columns, edges, gaps, range_gap, squared_box_gap}
use Rattle.sweep.specs.Scan.{beyond, scan, taken}
use Rattle.sweep.specs.Strip.{pair, pairs, placed_from, product, strip, whole}
use Rattle.sweep.specs.Sweep.{classic_over, leads, look, reverse_over, sweep}
use Rattle.halves.specs.Gap.{squared_strip_gap}
use Rattle.join.specs.Join.{join}
use Rattle.pairs.specs.DistanceList.{distance_list}
use Rattle.pairs.specs.KList.{k_list}
use Rattle.customers.specs.Customers.{campaign_as, cleared, is_customer, own_mark, settled_at, with_campaign, with_own}
use Rattle.campaign.specs.Calls.{accepted_job, after_job, grid_cuts, job_answer, job_entries, job_fault, job_refusal, lawful_cuts, open_answer, opened, open_refusal, prepare_answer, prepared, prepare_refusal, skips, slots, status_answer}
use Rattle.campaign.specs.Grid.{count_from, job_pairs, jobs, jobs_pairs, lawful_ends, lawful_mark, lawful_marks, mark_of, same_ends, same_numbers, settled, settled_jobs, strip_at, strip_holding}
use Rattle.campaign.specs.Soundness.{caller_refusal, campaign_refusal, customer_refusal, first_ends, keeper_refusal, lawful_grid, second_ends, sound, sound_entry}
use Rattle.demands.specs.Examples.{examples, ExamplesHold, figures, places, run, steps}

pub examples_hold : ExamplesHold
unfolding
    accepted_job after_job afterwards all all_within answer_unless apart ascending best_k between beyond box_around box_of
    caller_refusal campaign_as campaign_refusal classic_over cleared columns_of content_refusal coordinate_columns count_from
    customer_refusal distance_list edges entries_of equal_lengths examples ExamplesHold figures first_ends first_of flat_map
    foremost gap gaps grid_cuts height_within holding insert is_customer job_answer job_entries job_fault job_pairs job_refusal
    jobs jobs_pairs join keep keeper_refusal k_list last last_distance lawful_cuts lawful_ends lawful_grid lawful_k lawful_mark
    lawful_marks lawful_site leads lex list_refusal lists_refusal look mark_of offer open_answer opened open_refusal or_else
    overwritten own_mark pair pairs placed_from places prepare_answer prepared prepare_refusal product range_gap rank_before
    reverse_over room_for run same_ends same_numbers scan second_ends settled settled_at settled_jobs site_at site_before sites
    size_fault skips slots sort sound sound_entry square squared_box_gap squared_distance squared_strip_gap status_answer steps
    strip strip_at strip_holding sum sweep taken whole with_campaign with_columns within with_own zip_with
examples_hold = refl
