-- What is told of the front of some bytes, from what a reader of one kind tells.
use Rattle.std.proofs.Common.{◌≡◌, ◌≤◌, ℕ, List, length, Result, Ok, Err, IfOk, OnErr, arith}
use Rattle.bean_codec.specs.declared.profile.Profile.{Profile}
use Rattle.bean_codec.specs.declared.reader.Want.{Want}
use Rattle.bean_codec.specs.declared.reader.Want.TheVariants.{Line}
use Rattle.bean_codec.specs.declared.reader.Read.{Read}
use Rattle.bean_codec.specs.declared.reader.Read.TheVariants.{More, Drop, Request, Bad}
use Rattle.bean_codec.specs.Grammar.{Item}
use Rattle.bean_codec.specs.Memory.{TakesMemory}
use Rattle.bean_codec.specs.Reads.{IfMore, BeginsWith, TellsItem, TellsMore, TellsDrop, IsDue, TellsFront, longest_unfinished}
use Rattle.bean_codec.proofs.DroppedTexts.{only_told}
use Rattle.bean_codec.proofs.Due.{awaits_from, dropped_from}

-- few bytes are no more than may have to wait
pub few_wait : (read : Read) (bytes : List ℕ) (n : ℕ) → n ≤ longest_unfinished → IfMore read (length bytes ≤ n)
    → IfMore read (length bytes ≤ longest_unfinished)
few_wait More bytes n few h = omega (arith, h)
few_wait (Drop used want) bytes n few h = tt
few_wait (Request request used) bytes n few h = tt
few_wait (Bad fault used) bytes n few h = tt

pub tells_front : {E : Type 0} (profile : Profile) (want : Want) (bytes : List ℕ) (r : Result Read E)
    → IfOk r (TellsItem profile want bytes) → IfOk r (TellsMore profile want bytes) → IfOk r (TellsDrop profile want bytes)
    → IfOk r (IsDue profile want bytes) → IfOk r (λ read. IfMore read (length bytes ≤ longest_unfinished))
    → OnErr r ((want ≡ Line) × ((found : Item × ℕ) × TakesMemory found.0 × BeginsWith profile bytes found))
    → TellsFront profile want bytes r
tells_front profile want bytes (Ok read) item more drop due bound memory = record {
  item = item;
  more = more;
  drop = drop;
  only = only_told profile want bytes read item more;
  awaits = awaits_from profile want bytes read due;
  dropped = dropped_from profile want bytes read due;
  bound = bound;
  memory = tt;
}
tells_front profile want bytes (Err e) item more drop due bound memory = record {
  item = tt;
  more = tt;
  drop = tt;
  only = tt;
  awaits = tt;
  dropped = tt;
  bound = tt;
  memory = memory;
}
