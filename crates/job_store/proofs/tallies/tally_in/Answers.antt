use Rattle.std.proofs.Common.{rules, ◌≡◌, ◌^◌, []}
use Rattle.std.proofs.lemmas.List.{nil_from_length}
use Rattle.job_store.specs.declared.count.Count.{Count}
use Rattle.job_store.specs.declared.label.Label.{Label}
use Rattle.job_store.specs.Counts.{count_of, AreApart}
use Rattle.job_store.specs.LookUps.{is_in}
use Rattle.job_store.specs.Shelves.{belongs, number, places}
use Rattle.job_store.proofs.counting.Counted.{counted, on-shelf}
use Rattle.job_store.proofs.counting.Tallies.{tally-by}
use Rattle.job_store.proofs.tallies.tally_in.Goals as goal

pub returns : goal.returns
returns c =
    let s = c.args.shelves.now in
    let jobs = c.args.jobs.now.entries in
    let none : s.went.items ≡ [] = nil_from_length s.went.items (search rules) in
    let shelf = λ (label : Label) (count : Count) (is : count ≡ count_of (places s label)) (apart : AreApart (places s label)).
    counted (number label) (belongs label) 0 (2 ^ 64) jobs (places s label) count c.requires.rising apart
    (on-shelf s jobs s.went.items label c.requires none) is in
    tally-by (is_in c.args.tube.now) jobs c.count-ready.result c.count.result c.count-2.result c.count-3.result
    (shelf (Label.Ready c.args.tube) c.count-ready.result c.count-ready.ensures.count c.count-ready.ensures.apart)
    (shelf (Label.Reserved c.args.tube) c.count.result c.count.ensures.count c.count.ensures.apart)
    (shelf (Label.Delayed c.args.tube) c.count-2.result c.count-2.ensures.count c.count-2.ensures.apart)
    (shelf (Label.Buried c.args.tube) c.count-3.result c.count-3.ensures.count c.count-3.ensures.apart)
