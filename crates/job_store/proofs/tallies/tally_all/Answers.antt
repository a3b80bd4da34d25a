use Rattle.std.proofs.Common.{rules, ◌≡◌, ◌^◌, ◌<◌, ℕ, List, [], true, Bor, length}
use Rattle.std.proofs.lemmas.List.{nil_from_length}
use Rattle.job_store.specs.declared.label.Label.{Label}
use Rattle.bean_words.specs.declared.name.Name.{Name}
use Rattle.job_store.specs.LookUps.{pri_of_job, due_of_job, rank_of_job}
use Rattle.job_store.specs.States.{is_ready, is_delayed, is_buried, is_reserved}
use Rattle.job_store.proofs.counting.AllShelves.{all-of}
use Rattle.job_store.proofs.counting.Counted.{on-shelf}
use Rattle.job_store.proofs.counting.Tallies.{tally-by, in-any}
use Rattle.job_store.proofs.tallies.tally_all.Goals as goal

pub returns : goal.returns
returns c =
    let s = c.args.shelves.now in
    let jobs = c.args.jobs.now.entries in
    let none : s.went.items ≡ [] = nil_from_length s.went.items (search rules) in
    let few : length jobs < 2 ^ 63 = search rules in
    let name = λ (tube : List ℕ). let n : Bor Name = record { ref_ptr = (0, 0); now = tube } in n in
    tally-by (λ e. true) jobs c.count_all-ready.result c.count_all.result c.count_all-2.result c.count_all-3.result
    (in-any pri_of_job (λ e. is_ready e.1.state) jobs c.count_all-ready.result
    (all-of pri_of_job (λ e. is_ready e.1.state) jobs c.requires.rising s.ready.shelves c.count_all-ready.ensures.ordered
    (λ tube. on-shelf s jobs s.went.items (Label.Ready (name tube)) c.requires none) c.count_all-ready.result few c.count_all-ready.ensures))
    (in-any due_of_job (λ e. is_reserved e.1.state) jobs c.count_all.result
    (all-of due_of_job (λ e. is_reserved e.1.state) jobs c.requires.rising s.reserved.shelves c.count_all.ensures.ordered
    (λ tube. on-shelf s jobs s.went.items (Label.Reserved (name tube)) c.requires none) c.count_all.result few c.count_all.ensures))
    (in-any due_of_job (λ e. is_delayed e.1.state) jobs c.count_all-2.result
    (all-of due_of_job (λ e. is_delayed e.1.state) jobs c.requires.rising s.delayed.shelves c.count_all-2.ensures.ordered
    (λ tube. on-shelf s jobs s.went.items (Label.Delayed (name tube)) c.requires none) c.count_all-2.result few c.count_all-2.ensures))
    (in-any rank_of_job (λ e. is_buried e.1.state) jobs c.count_all-3.result
    (all-of rank_of_job (λ e. is_buried e.1.state) jobs c.requires.rising s.buried.shelves c.count_all-3.ensures.ordered
    (λ tube. on-shelf s jobs s.went.items (Label.Buried (name tube)) c.requires none) c.count_all-3.result few c.count_all-3.ensures))
