-- A queue's state stays sound.
use Rattle.std.proofs.Common.{◌≡◌, ℕ, None, sym, subst, ◌∙◌, arith}
use Rattle.object.specs.declared.command.Act.{Act}
use Rattle.object.specs.declared.command.Command.{Command}
use Rattle.object.specs.declared.command.Key.{Key}
use Rattle.bean_words.specs.declared.op.Op.{Op}
use Rattle.bean_queue.specs.Effects.{released, forgotten, do_effect, close_effect, tick_effect, act_effect, effect}
use Rattle.bean_queue.specs.Queue.{QueueState, fresh}
use Rattle.bean_queue.specs.Sound.{IsSoundQueue}
use Rattle.bean_queue.specs.Turns.{serve, serve_turn}
use Rattle.bean_queue.proofs.calm.Calm.{do-calm, close-calm, tick-calm, fresh-calm}
use Rattle.bean_queue.proofs.holders.EffectHolds.{do-gives, close-gives, tick-gives, effect-gives}

closed-calm : (x : ℕ) (s : QueueState) → serve_turn (close_effect x s).state ≡ None
unfolding close_effect
closed-calm x s = close-calm x s

effect-calm : (c : Command Op) (s : QueueState) → serve_turn s ≡ None → serve_turn (effect c s).state ≡ None
unfolding effect act_effect
effect-calm c s none =
    elim c.act as (λ act. serve_turn (act_effect act c.key s).state ≡ None) [
      | Act.Do op ↦ do-calm op c.key s none
      | Act.Close ↦ closed-calm c.key.session s
      | Act.Tick ↦ tick-calm c.key.number s none
    ]

pub fresh-sound : IsSoundQueue fresh
fresh-sound = record { ids = omega arith; calm = fresh-calm }

pub effect-sound : (c : Command Op) (s : QueueState) → IsSoundQueue s → IsSoundQueue (effect c s).state
effect-sound c s h = record { ids = (effect-gives 0 c s h.ids).sound; calm = effect-calm c s h.calm }

-- each kind of command by itself

pub do-sound : (op : Op) (key : Key) (s : QueueState) → IsSoundQueue s → IsSoundQueue (do_effect op key s).state
do-sound op key s h = record { ids = (do-gives 0 op key s h.ids).sound; calm = do-calm op key s h.calm }

pub close-sound : (x : ℕ) (s : QueueState) → IsSoundQueue s → IsSoundQueue (forgotten x (serve (released x s)).state)
unfolding close_effect
close-sound x s h = record { ids = (close-gives 0 x s h.ids).sound; calm = close-calm x s }

pub tick-sound : (second : ℕ) (s : QueueState) → IsSoundQueue s → IsSoundQueue (tick_effect second s).state
tick-sound second s h = record { ids = (tick-gives 0 second s h.ids).sound; calm = tick-calm second s h.calm }

-- a state that was kept, and came of an effect that leaves it sound
pub kept-sound : (effect kept before now : QueueState) → IsSoundQueue effect → kept ≡ effect → now ≡ kept
    → before ≡ kept → (before ≡ now) × IsSoundQueue now
kept-sound effect kept before now sound e n b = (b ∙ sym n, subst IsSoundQueue (sym (n ∙ e)) sound)
