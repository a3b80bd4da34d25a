use Rattle.std.proofs.Common.{Ok, refl, arith}
use Rattle.std.proofs.lemmas.Result.{on_err_weaker}
use Rattle.bean_codec.specs.declared.reader.Want.TheVariants.{Line, Rest, Big}
use Rattle.bean_codec.proofs.FrontTold.{few_wait, tells_front}
use Rattle.bean_codec.proofs.reader.read_request_in.Goals as goal

pub returns-in-Line : goal.returns-in-Line
returns-in-Line c =
    let told = c.read_line.ensures in
    rw c.in-Line.is
    (tells_front c.args.profile Line c.args.bytes.now c.read_line.result told.item told.more told.drop told.due told.bound
    (on_err_weaker c.read_line.result (λ found. (refl, found)) told.memory))

pub returns-in-Rest : goal.returns-in-Rest
returns-in-Rest c =
    let profile = c.args.profile in
    let bytes = c.args.bytes.now in
    let told = c.read_rest.ensures in
    rw c.in-Rest.is
    (tells_front profile Rest bytes (Ok c.read_rest.result) (told.item profile) (told.more profile) (told.drop profile)
    (told.due profile) (few_wait c.read_rest.result bytes 1 (omega arith) told.bound) tt)

pub returns-in-Big : goal.returns-in-Big
returns-in-Big c =
    let profile = c.args.profile in
    let bytes = c.args.bytes.now in
    let told = c.read_big.ensures in
    rw c.in-Big.is
    (tells_front profile (Big c.in-Big.left) bytes (Ok c.read_big.result) (told.item profile) (told.more profile)
    (told.drop profile) (told.due profile) (few_wait c.read_big.result bytes 0 (omega arith) told.bound) tt)
