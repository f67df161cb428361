-- What holds of every run, whatever letters its events lose, repeat or reorder.
use Rattle.std.specs.Prelude.{◌≡◌, ℕ, ◌⊎◌, List, [], Some, IsTrue}
use Rattle.run_laws.specs.Plan.{Plan}
use Rattle.run_laws.specs.Flat.{Flat, begun_flat, flat_run, is_legal, Answer, Silent, due}
use Rattle.run_laws.specs.Node.{Fresh}
use Rattle.run_laws.specs.Client.{Asking, NotAsked, Asked, Answered}
use Rattle.run_laws.specs.World.{World, Event, Happens, RunsTo}

-- the world before the first event: nothing is asked, sent or live, and the nodes hold the flat memory's regions
pub record IsFirst (P : Plan) (start : Flat) (w : World) : Type 0 where
  pub requests : (r : ℕ) → start.requests r ≡ begun_flat (P.first r)
  pub slots : (n r k : ℕ) → (w.nodes n).slot r k ≡ Fresh
  pub asking : (r : ℕ) → w.asking r ≡ NotAsked
  pub letters : w.letters ≡ []
  pub order : w.order ≡ []
  pub memory : (i : ℕ) → (w.nodes (P.owner i)).bytes i ≡ start.regions i

-- an answer, where there is one, is silent or due
abbrev pub AnswerFits : Plan → ℕ → Flat → Asking → Type 0
AnswerFits P r f NotAsked = Unit {0}
AnswerFits P r f (Asked l c t) = Unit {0}
AnswerFits P r f (Answered a) = (a ≡ Silent) ⊎ (due P r (f.requests r) ≡ Some a)

-- The order is legal, the regions on the nodes are the flat memory after it, and each answer is silent or due.
pub record Explained (P : Plan) (start : Flat) (w : World) : Type 0 where
  pub legal : IsTrue (is_legal P start w.order)
  pub memory : (i : ℕ) → (w.nodes (P.owner i)).bytes i ≡ (flat_run P start w.order).regions i
  pub answers : (r : ℕ) → AnswerFits P r (flat_run P start w.order) (w.asking r)

-- A run of any events from the first world is explained by the flat run of its order: after each event, as each prefix is a run.
abbrev pub FlatRunExplains : Type 0
FlatRunExplains =
    (P : Plan) (tries : ℕ) (start : Flat) (w v : World) (events : List Event)
    → IsFirst P start w → RunsTo P tries w events v → Explained P start v

-- an answer that was given never changes
abbrev pub AnswersStay : Type 0
AnswersStay =
    (P : Plan) (tries : ℕ) (w v : World) (e : Event) (r : ℕ) (a : Answer)
    → Happens P tries w v e → w.asking r ≡ Answered a → v.asking r ≡ Answered a
