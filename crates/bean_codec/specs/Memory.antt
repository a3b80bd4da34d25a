-- Which requests take memory as they are read: those whose bytes the queue keeps.
use Rattle.std.specs.Prelude.{◌⊎◌, Option, Some, Result, Ok, Err}
use Rattle.bean_words.specs.declared.op.Op.TheVariants.{Put, Use, Watch, Ignore, Pause, StatsTube}
use Rattle.bean_codec.specs.declared.request.Request.{Request}
use Rattle.bean_codec.specs.declared.request.Request.TheVariants.{Do}
use Rattle.bean_codec.specs.declared.request.Fault.{Fault}
use Rattle.bean_codec.specs.declared.line.Meaning.{Meaning}
use Rattle.bean_codec.specs.declared.line.Meaning.TheVariants.{Whole}
use Rattle.bean_codec.specs.Grammar.{Item}

-- it has the name of a tube
abbrev pub NamesTube : Request → Type 0
NamesTube (Do (Use tube)) = Unit {0}
NamesTube (Do (Watch tube)) = Unit {0}
NamesTube (Do (Ignore tube)) = Unit {0}
NamesTube (Do (Pause tube seconds)) = Unit {0}
NamesTube (Do (StatsTube tube)) = Unit {0}
NamesTube _ = ⊥

-- it has a body
abbrev pub IsPut : Request → Type 0
IsPut (Do (Put pri delay ttr body)) = Unit {0}
IsPut _ = ⊥

-- a request with a body or a name
abbrev pub TakesMemory : Item → Type 0
TakesMemory (Ok request) = IsPut request ⊎ NamesTube request
TakesMemory (Err fault) = ⊥

-- the words after the first make a request with a name
abbrev pub HasName : Option Meaning → Type 0
HasName (Some (Whole request)) = NamesTube request
HasName _ = ⊥

-- so does the line
abbrev pub LineHasName : Result Meaning Fault → Type 0
LineHasName (Ok (Whole request)) = NamesTube request
LineHasName _ = ⊥
