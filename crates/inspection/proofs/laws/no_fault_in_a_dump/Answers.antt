use Rattle.hall.specs.Halls.{chronicle_of}
use Rattle.inspection.proofs.laws.no_fault_in_a_dump.Goals as goal

pub returns : goal.returns
returns c = λ same h explained once.
    c.legal_is_faultless.ensures same (chronicle_of h) explained.order once explained.keys explained.legal
