-- What keys and acts have: numbers, of which some are short and some long, names of tubes, and bodies of bytes.
use Rattle.std.specs.Prelude.{ℕ, ⊤, Some}
use Rattle.object.specs.declared.command.Act.{Act}
use Rattle.object.specs.declared.command.Act.TheVariants.{Do}
use Rattle.object.specs.declared.command.Key.{Key}
use Rattle.bean_words.specs.Names.{IsName}
use Rattle.bean_words.specs.declared.op.Op.{Op}
use Rattle.bean_words.specs.declared.op.Op.TheVariants.{Put, Use, Watch, Ignore, Reserve, Delete, Touch, Release, Bury, Kick, KickJob, Peek, Pause}
use Rattle.bean_words.specs.declared.op.Op.TheVariants.{ReserveJob, StatsJob, StatsTube}
use Rattle.hex.specs.Hex.{IsBytes}

-- the numbers of a key are so
abbrev pub HasKeySizes : (ℕ → Type 0) → (ℕ → Type 0) → Key → Type 0
HasKeySizes short long key = short key.session × long key.number

-- so are those of an operation; its tube is a name, and its body is of bytes
abbrev pub HasOpSizes : (ℕ → Type 0) → (ℕ → Type 0) → Op → Type 0
HasOpSizes short long (Put pri delay ttr body) = short pri × short delay × short ttr × IsBytes body
HasOpSizes short long (Use tube) = IsName tube
HasOpSizes short long (Watch tube) = IsName tube
HasOpSizes short long (Ignore tube) = IsName tube
HasOpSizes short long (Reserve (Some seconds)) = short seconds
HasOpSizes short long (Delete id) = long id
HasOpSizes short long (Touch id) = long id
HasOpSizes short long (Release id pri delay) = long id × short pri × short delay
HasOpSizes short long (Bury id pri) = long id × short pri
HasOpSizes short long (Kick bound) = short bound
HasOpSizes short long (KickJob id) = long id
HasOpSizes short long (Peek id) = long id
HasOpSizes short long (Pause tube seconds) = IsName tube × short seconds
HasOpSizes short long (ReserveJob id) = long id
HasOpSizes short long (StatsJob id) = long id
HasOpSizes short long (StatsTube tube) = IsName tube
HasOpSizes short long _ = ⊤

-- the same of an act
abbrev pub HasActSizes : (ℕ → Type 0) → (ℕ → Type 0) → Act Op → Type 0
HasActSizes short long (Do op) = HasOpSizes short long op
HasActSizes short long _ = ⊤
