-- `write` meets its contract: refused, or the parts of the file stored one after another.
use mathlib.Core.Path.{sym}
use native.Mathlib.Omega.{arith}
use lib.ListN.{length}
use Rattle.site.specs.Answer.{refusal_of}
use Rattle.site.specs.SiteList.{columns}
use Rattle.site.proofs.Answer.{passed_on}
use Rattle.site.proofs.Accepted.{accepted_level}
use Rattle.site_file.proofs.WriteAnswer.{Ready, ready, write_refused, write_answered}
use Rattle.site_file.proofs.writing.write.Goals as goal
use Rattle.site_file.proofs.writing.write.Goals.{In_ok-write_refusal}

-- What is known where nothing refuses.
known : (c : In_ok-write_refusal)
    → (let a = c.args in Ready (columns a.ax.now a.ay.now a.an.now) (columns a.bx.now a.by.now a.bn.now) (length a.buffer.now))
unfolding refusal_of
known c = ready _ _ _ (sym c.in_ok-write_refusal.ensures)

pub returns-in_err-write_refusal : goal.returns-in_err-write_refusal
unfolding refusal_of
returns-in_err-write_refusal c =
    rw (passed_on c.from_residual.ensures)
    (write_refused _ _ c.args.buffer.now _ c.in_err-write_refusal.ensures)

pub overflow_cast-n : goal.overflow_cast-n
overflow_cast-n c = let g = known (goal.at.overflow_cast-n c).In_ok-write_refusal in omega arith

pub overflow_cast-m : goal.overflow_cast-m
overflow_cast-m c = let g = known (goal.at.overflow_cast-m c).In_ok-write_refusal in omega arith

pub put_contents-requires : goal.put_contents-requires
put_contents-requires c = let g = known (goal.at.put_contents-requires c).In_ok-write_refusal in (omega arith, omega arith)

pub put_sites-requires-clause-x_in_bounds : goal.put_sites-requires-clause-x_in_bounds
put_sites-requires-clause-x_in_bounds c =
    let g = known (goal.at.put_sites-requires-clause-x_in_bounds c).In_ok-write_refusal in
    omega (arith, c.put_contents.auto.buffer)

pub put_sites-requires-clause-level : goal.put_sites-requires-clause-level
put_sites-requires-clause-level c = accepted_level _ (known (goal.at.put_sites-requires-clause-level c).In_ok-write_refusal).first

pub overflow_mul-n : goal.overflow_mul-n
overflow_mul-n c = let g = known (goal.at.overflow_mul-n c).In_ok-write_refusal in omega arith

pub overflow_add-n : goal.overflow_add-n
overflow_add-n c = let g = known (goal.at.overflow_add-n c).In_ok-write_refusal in omega arith

pub put_sites-requires-2-clause-x_in_bounds : goal.put_sites-requires-2-clause-x_in_bounds
put_sites-requires-2-clause-x_in_bounds c =
    let g = known (goal.at.put_sites-requires-2-clause-x_in_bounds c).In_ok-write_refusal in
    omega (arith, c.put_contents.auto.buffer, c.put_sites.auto.buffer)

pub put_sites-requires-2-clause-level : goal.put_sites-requires-2-clause-level
put_sites-requires-2-clause-level c =
    accepted_level _ (known (goal.at.put_sites-requires-2-clause-level c).In_ok-write_refusal).second

pub overflow_mul-result : goal.overflow_mul-result
overflow_mul-result c = let g = known (goal.at.overflow_mul-result c).In_ok-write_refusal in omega arith

pub overflow_add-result : goal.overflow_add-result
overflow_add-result c = let g = known (goal.at.overflow_add-result c).In_ok-write_refusal in omega arith

pub overflow_mul-result-2 : goal.overflow_mul-result-2
overflow_mul-result-2 c = let g = known (goal.at.overflow_mul-result-2 c).In_ok-write_refusal in omega arith

pub overflow_add-result-2 : goal.overflow_add-result-2
overflow_add-result-2 c = let g = known (goal.at.overflow_add-result-2 c).In_ok-write_refusal in omega arith

pub overflow_cast-result : goal.overflow_cast-result
overflow_cast-result c = let g = known (goal.at.overflow_cast-result c).In_ok-write_refusal in omega arith

pub returns : goal.returns
unfolding refusal_of
returns c =
    write_answered _ _ c.args.buffer.now c.in_ok-write_refusal.ensures
    c.put_contents.ensures c.put_sites.ensures c.put_sites-2.ensures
