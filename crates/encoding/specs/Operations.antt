-- The operations of a queue as bytes.
use Rattle.std.proofs.Common.{◌≡◌, ℕ, cond, eqb, List, [], ◌∷◌, ◌++◌, Option, Some, None, refl, ap}
use Rattle.std.specs.Prelude.{⊤}
use Rattle.bean_words.specs.declared.op.Op.{Op}
use Rattle.bean_words.specs.declared.op.Op.TheVariants.{Put, Use, Watch, Ignore, Reserve, Delete, Touch, Release, Bury}
use Rattle.bean_words.specs.declared.op.Op.TheVariants.{Kick, KickJob, Peek, PeekReady, PeekDelayed, PeekBuried}
use Rattle.bean_words.specs.declared.op.Op.TheVariants.{ListTubes, ListTubeUsed, ListTubesWatched, Pause}
use Rattle.bean_words.specs.declared.op.Op.TheVariants.{ReserveJob, StatsJob, StatsTube, Stats}
use Rattle.encoding.specs.Formats.{◌>>=◌, AreBytes, Takes, Format}
use Rattle.encoding.specs.Numbers.{u32_format, u64_format}
use Rattle.encoding.specs.Joined.{nothing, both, sized}
use Rattle.encoding.specs.Variants.{read_as, of_kind, by_choice}
use Rattle.encoding.specs.Words.{name_format, optional}

-- what belongs to a put, a release, a bury and a pause
abbrev pub put_format : Format ((ℕ × (ℕ × ℕ)) × List ℕ)
put_format = both (both u32_format (both u32_format u32_format)) sized

abbrev pub release_format : Format (ℕ × (ℕ × ℕ))
release_format = both u64_format (both u32_format u32_format)

abbrev pub bury_format : Format (ℕ × ℕ)
bury_format = both u64_format u32_format

abbrev pub pause_format : Format (List ℕ × ℕ)
pause_format = both name_format u32_format

-- which operation it is, as a byte
unfoldable pub op_kind : Op → ℕ
op_kind (Put pri delay ttr body) = 0
op_kind (Use tube) = 1
op_kind (Watch tube) = 2
op_kind (Ignore tube) = 3
op_kind (Reserve seconds) = 4
op_kind (Delete id) = 5
op_kind (Touch id) = 6
op_kind (Release id pri delay) = 7
op_kind (Bury id pri) = 8
op_kind (Kick bound) = 9
op_kind (KickJob id) = 10
op_kind (ReserveJob id) = 11
op_kind (Peek id) = 12
op_kind PeekReady = 13
op_kind PeekDelayed = 14
op_kind PeekBuried = 15
op_kind ListTubes = 16
op_kind ListTubeUsed = 17
op_kind ListTubesWatched = 18
op_kind (Pause tube seconds) = 19
op_kind (StatsJob id) = 20
op_kind (StatsTube tube) = 21
op_kind Stats = 22

-- what belongs to it
unfoldable pub args_bytes : Op → List ℕ
args_bytes (Put pri delay ttr body) = put_format.bytes ((pri, (delay, ttr)), body)
args_bytes (Use tube) = name_format.bytes tube
args_bytes (Watch tube) = name_format.bytes tube
args_bytes (Ignore tube) = name_format.bytes tube
args_bytes (Reserve seconds) = (optional u32_format).bytes seconds
args_bytes (Delete id) = u64_format.bytes id
args_bytes (Touch id) = u64_format.bytes id
args_bytes (Release id pri delay) = release_format.bytes (id, (pri, delay))
args_bytes (Bury id pri) = bury_format.bytes (id, pri)
args_bytes (Kick bound) = u32_format.bytes bound
args_bytes (KickJob id) = u64_format.bytes id
args_bytes (ReserveJob id) = u64_format.bytes id
args_bytes (Peek id) = u64_format.bytes id
args_bytes (Pause tube seconds) = pause_format.bytes (tube, seconds)
args_bytes (StatsJob id) = u64_format.bytes id
args_bytes (StatsTube tube) = name_format.bytes tube
args_bytes _ = []

unfoldable pub op_bytes : Op → List ℕ
op_bytes op = op_kind op ∷ args_bytes op

-- its numbers have the widths of their fields
unfoldable pub FitsOp : Op → Type 0
FitsOp (Put pri delay ttr body) = put_format.Fits ((pri, (delay, ttr)), body)
FitsOp (Use tube) = name_format.Fits tube
FitsOp (Watch tube) = name_format.Fits tube
FitsOp (Ignore tube) = name_format.Fits tube
FitsOp (Reserve seconds) = (optional u32_format).Fits seconds
FitsOp (Delete id) = u64_format.Fits id
FitsOp (Touch id) = u64_format.Fits id
FitsOp (Release id pri delay) = release_format.Fits (id, (pri, delay))
FitsOp (Bury id pri) = bury_format.Fits (id, pri)
FitsOp (Kick bound) = u32_format.Fits bound
FitsOp (KickJob id) = u64_format.Fits id
FitsOp (ReserveJob id) = u64_format.Fits id
FitsOp (Peek id) = u64_format.Fits id
FitsOp (Pause tube seconds) = pause_format.Fits (tube, seconds)
FitsOp (StatsJob id) = u64_format.Fits id
FitsOp (StatsTube tube) = name_format.Fits tube
FitsOp _ = ⊤

-- the operation behind such a byte: one that looks
unfoldable pub look_of : ℕ → List ℕ → Option (Op × List ℕ)
look_of t text =
    cond (eqb t 12) (read_as u64_format Peek text)
    (cond (eqb t 13) (Some (PeekReady, text))
    (cond (eqb t 14) (Some (PeekDelayed, text))
    (cond (eqb t 15) (Some (PeekBuried, text))
    (cond (eqb t 16) (Some (ListTubes, text))
    (cond (eqb t 17) (Some (ListTubeUsed, text))
    (cond (eqb t 18) (Some (ListTubesWatched, text))
    (cond (eqb t 20) (read_as u64_format StatsJob text)
    (cond (eqb t 21) (read_as name_format StatsTube text)
    (cond (eqb t 22) (Some (Stats, text)) None)))))))))

-- or one of a tube
unfoldable pub tube_op_of : ℕ → List ℕ → Option (Op × List ℕ)
tube_op_of t text =
    cond (eqb t 1) (read_as name_format Use text)
    (cond (eqb t 2) (read_as name_format Watch text)
    (cond (eqb t 3) (read_as name_format Ignore text)
    (cond (eqb t 19) (read_as pause_format (λ p. Pause p.0 p.1) text) (look_of t text))))

-- or one of a job by its id
unfoldable pub job_op_of : ℕ → List ℕ → Option (Op × List ℕ)
job_op_of t text =
    cond (eqb t 5) (read_as u64_format Delete text)
    (cond (eqb t 6) (read_as u64_format Touch text)
    (cond (eqb t 7) (read_as release_format (λ p. Release p.0 p.1.0 p.1.1) text)
    (cond (eqb t 8) (read_as bury_format (λ p. Bury p.0 p.1) text)
    (cond (eqb t 10) (read_as u64_format KickJob text)
    (cond (eqb t 11) (read_as u64_format ReserveJob text) (tube_op_of t text))))))

-- or one of those
unfoldable pub op_of : ℕ → List ℕ → Option (Op × List ℕ)
op_of t text =
    cond (eqb t 0) (read_as put_format (λ p. Put p.0.0 p.0.1.0 p.0.1.1 p.1) text)
    (cond (eqb t 4) (read_as (optional u32_format) Reserve text)
    (cond (eqb t 9) (read_as u32_format Kick text) (job_op_of t text)))

unfoldable pub op_at : List ℕ → Option (Op × List ℕ)
op_at [] = None
op_at (t ∷ text) = op_of t text

-- what was read behind a byte is an operation of these bytes
abbrev ReadsOp : ℕ → List ℕ → Op → List ℕ → Type 0
ReadsOp t text op rest = Takes (t ∷ text) (op_bytes op) rest × FitsOp op

look_takes : (t : ℕ) (text : List ℕ) (op : Op) (rest : List ℕ) → AreBytes (t ∷ text) → look_of t text ≡ Some (op, rest)
    → ReadsOp t text op rest
unfolding look_of op_bytes op_kind args_bytes FitsOp
look_takes t text op rest are e =
    by_choice (eqb t 12) _ _ _ e (λ is h. of_kind u64_format Peek op_bytes FitsOp t 12 (λ id. refl) (λ id fits. fits) text op rest are is h) (λ e.
    by_choice (eqb t 13) _ _ _ e (λ is h. of_kind nothing (λ u. PeekReady) op_bytes FitsOp t 13 (λ u. refl) (λ u fits. tt) text op rest are is h) (λ e.
    by_choice (eqb t 14) _ _ _ e (λ is h. of_kind nothing (λ u. PeekDelayed) op_bytes FitsOp t 14 (λ u. refl) (λ u fits. tt) text op rest are is h) (λ e.
    by_choice (eqb t 15) _ _ _ e (λ is h. of_kind nothing (λ u. PeekBuried) op_bytes FitsOp t 15 (λ u. refl) (λ u fits. tt) text op rest are is h) (λ e.
    by_choice (eqb t 16) _ _ _ e (λ is h. of_kind nothing (λ u. ListTubes) op_bytes FitsOp t 16 (λ u. refl) (λ u fits. tt) text op rest are is h) (λ e.
    by_choice (eqb t 17) _ _ _ e (λ is h. of_kind nothing (λ u. ListTubeUsed) op_bytes FitsOp t 17 (λ u. refl) (λ u fits. tt) text op rest are is h) (λ e.
    by_choice (eqb t 18) _ _ _ e (λ is h. of_kind nothing (λ u. ListTubesWatched) op_bytes FitsOp t 18 (λ u. refl) (λ u fits. tt) text op rest are is h) (λ e.
    by_choice (eqb t 20) _ _ _ e (λ is h. of_kind u64_format StatsJob op_bytes FitsOp t 20 (λ id. refl) (λ id fits. fits) text op rest are is h) (λ e.
    by_choice (eqb t 21) _ _ _ e (λ is h. of_kind name_format StatsTube op_bytes FitsOp t 21 (λ tube. refl) (λ tube fits. fits) text op rest are is h) (λ e.
    by_choice (eqb t 22) _ _ _ e (λ is h. of_kind nothing (λ u. Stats) op_bytes FitsOp t 22 (λ u. refl) (λ u fits. tt) text op rest are is h) (λ e.
    absurd cc))))))))))

tube_takes : (t : ℕ) (text : List ℕ) (op : Op) (rest : List ℕ) → AreBytes (t ∷ text) → tube_op_of t text ≡ Some (op, rest)
    → ReadsOp t text op rest
unfolding tube_op_of op_bytes op_kind args_bytes FitsOp
tube_takes t text op rest are e =
    by_choice (eqb t 1) _ _ _ e (λ is h. of_kind name_format Use op_bytes FitsOp t 1 (λ tube. refl) (λ tube fits. fits) text op rest are is h) (λ e.
    by_choice (eqb t 2) _ _ _ e (λ is h. of_kind name_format Watch op_bytes FitsOp t 2 (λ tube. refl) (λ tube fits. fits) text op rest are is h) (λ e.
    by_choice (eqb t 3) _ _ _ e (λ is h. of_kind name_format Ignore op_bytes FitsOp t 3 (λ tube. refl) (λ tube fits. fits) text op rest are is h) (λ e.
    by_choice (eqb t 19) _ _ _ e (λ is h. of_kind pause_format (λ p. Pause p.0 p.1) op_bytes FitsOp t 19 (λ p. refl) (λ p fits. fits) text op rest are is h) (λ e.
    look_takes t text op rest are e))))

job_takes : (t : ℕ) (text : List ℕ) (op : Op) (rest : List ℕ) → AreBytes (t ∷ text) → job_op_of t text ≡ Some (op, rest)
    → ReadsOp t text op rest
unfolding job_op_of op_bytes op_kind args_bytes FitsOp
job_takes t text op rest are e =
    by_choice (eqb t 5) _ _ _ e (λ is h. of_kind u64_format Delete op_bytes FitsOp t 5 (λ id. refl) (λ id fits. fits) text op rest are is h) (λ e.
    by_choice (eqb t 6) _ _ _ e (λ is h. of_kind u64_format Touch op_bytes FitsOp t 6 (λ id. refl) (λ id fits. fits) text op rest are is h) (λ e.
    by_choice (eqb t 7) _ _ _ e (λ is h. of_kind release_format (λ p. Release p.0 p.1.0 p.1.1) op_bytes FitsOp t 7 (λ p. refl) (λ p fits. fits) text op rest are is h) (λ e.
    by_choice (eqb t 8) _ _ _ e (λ is h. of_kind bury_format (λ p. Bury p.0 p.1) op_bytes FitsOp t 8 (λ p. refl) (λ p fits. fits) text op rest are is h) (λ e.
    by_choice (eqb t 10) _ _ _ e (λ is h. of_kind u64_format KickJob op_bytes FitsOp t 10 (λ id. refl) (λ id fits. fits) text op rest are is h) (λ e.
    by_choice (eqb t 11) _ _ _ e (λ is h. of_kind u64_format ReserveJob op_bytes FitsOp t 11 (λ id. refl) (λ id fits. fits) text op rest are is h) (λ e.
    tube_takes t text op rest are e))))))

pub op_takes : (text : List ℕ) (op : Op) (rest : List ℕ) → AreBytes text → op_at text ≡ Some (op, rest)
    → Takes text (op_bytes op) rest × FitsOp op
unfolding op_at op_of op_bytes op_kind args_bytes FitsOp
op_takes [] op rest are e = absurd cc
op_takes (t ∷ text) op rest are e =
    by_choice (eqb t 0) _ _ _ e (λ is h. of_kind put_format (λ p. Put p.0.0 p.0.1.0 p.0.1.1 p.1) op_bytes FitsOp t 0 (λ p. refl) (λ p fits. fits) text op rest are is h) (λ e.
    by_choice (eqb t 4) _ _ _ e (λ is h. of_kind (optional u32_format) Reserve op_bytes FitsOp t 4 (λ seconds. refl) (λ seconds fits. fits) text op rest are is h) (λ e.
    by_choice (eqb t 9) _ _ _ e (λ is h. of_kind u32_format Kick op_bytes FitsOp t 9 (λ bound. refl) (λ bound fits. fits) text op rest are is h) (λ e.
    job_takes t text op rest are e)))

-- what is read as an operation of a kind, where it was written so
again_as : {B : Type 0} (f : Format B) (into : B → Op) (b : B) (rest : List ℕ) → f.Fits b
    → read_as f into (f.bytes b ++ rest) ≡ Some (into b, rest)
again_as f into b rest fits = ap (λ r. r >>= λ c. Some (into c.0, c.1)) (f.again b rest fits)

pub op_again : (op : Op) (rest : List ℕ) → FitsOp op → op_at (op_bytes op ++ rest) ≡ Some (op, rest)
unfolding op_at op_of job_op_of tube_op_of look_of op_bytes op_kind args_bytes FitsOp
op_again (Put pri delay ttr body) rest fits = again_as put_format (λ p. Put p.0.0 p.0.1.0 p.0.1.1 p.1) ((pri, (delay, ttr)), body) rest fits
op_again (Use tube) rest fits = again_as name_format Use tube rest fits
op_again (Watch tube) rest fits = again_as name_format Watch tube rest fits
op_again (Ignore tube) rest fits = again_as name_format Ignore tube rest fits
op_again (Reserve seconds) rest fits = again_as (optional u32_format) Reserve seconds rest fits
op_again (Delete id) rest fits = again_as u64_format Delete id rest fits
op_again (Touch id) rest fits = again_as u64_format Touch id rest fits
op_again (Release id pri delay) rest fits = again_as release_format (λ p. Release p.0 p.1.0 p.1.1) (id, (pri, delay)) rest fits
op_again (Bury id pri) rest fits = again_as bury_format (λ p. Bury p.0 p.1) (id, pri) rest fits
op_again (Kick bound) rest fits = again_as u32_format Kick bound rest fits
op_again (KickJob id) rest fits = again_as u64_format KickJob id rest fits
op_again (ReserveJob id) rest fits = again_as u64_format ReserveJob id rest fits
op_again (Peek id) rest fits = again_as u64_format Peek id rest fits
op_again PeekReady rest fits = refl
op_again PeekDelayed rest fits = refl
op_again PeekBuried rest fits = refl
op_again ListTubes rest fits = refl
op_again ListTubeUsed rest fits = refl
op_again ListTubesWatched rest fits = refl
op_again (Pause tube seconds) rest fits = again_as pause_format (λ p. Pause p.0 p.1) (tube, seconds) rest fits
op_again (StatsJob id) rest fits = again_as u64_format StatsJob id rest fits
op_again (StatsTube tube) rest fits = again_as name_format StatsTube tube rest fits
op_again Stats rest fits = refl

abbrev pub op_format : Format Op
op_format = record { bytes = op_bytes; at = op_at; Fits = FitsOp; takes = op_takes; again = op_again }
