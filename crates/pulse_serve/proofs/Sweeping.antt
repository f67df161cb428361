-- All requests of a client, one after the other.
use Rattle.std.proofs.Common.{◌≡◌, ◌≤◌, ◌<◌, ℕ, ◌+◌, List, [], ◌∷◌, ◌++◌, length, take, get_or, slice_get, Option, Some, Ok, Err, refl, sym, ap, subst, ◌∙◌, arith}
use Rattle.std.specs.Option.{option_map}
use Rattle.pulse_base.specs.Link.{Sent, Traffic}
use Rattle.pulse_base.specs.declared.source.Failed.{Failed}
use Rattle.client_core.specs.Requests.{ClientState}
use Rattle.pulse_serve.specs.Frames.{Grew}
use Rattle.pulse_serve.specs.Runs.{TurnOn, Runs}
use Rattle.pulse_serve.specs.ClientRun.{numbers}
use Rattle.pulse_serve.specs.inner.Asking.{DoesOne, DoesAll}
use Rattle.pulse_serve.proofs.Traffics.{grew_more, grew_none, append_nil}
use Rattle.pulse_serve.proofs.Running.{runs_more}
use Rattle.pulse_serve.proofs.Answering.{number_at, take_more, taken_all, count_is}

-- the requests before a place
abbrev pub Sweeps : TurnOn ClientState ℕ → ClientState → ℕ → ClientState → Option Traffic → Option Traffic → Type 0
Sweeps Turn c at now a b = (ss : List Sent) × Grew a b [] ss × Runs Turn c (take at (numbers c)) now ss

pub sweeps_none : (Turn : TurnOn ClientState ℕ) (c : ClientState) (a : Option Traffic) → Sweeps Turn c 0 c a a
sweeps_none Turn c a = ([], grew_none a a refl, (refl, refl))

one_more : (Turn : TurnOn ClientState ℕ) (c mid now : ClientState) (at n : ℕ) (ss ts : List Sent) → numbers mid ≡ numbers c → at < length mid.requests
    → option_map (λ q. q.plan.number) (slice_get mid.requests at) ≡ Some n → Runs Turn c (take at (numbers c)) mid ss → Turn mid n now ts → Runs Turn c (take (at + 1) (numbers c)) now (ss ++ ts)
one_more Turn c mid now at n ss ts same less number r t =
    let there : get_or (numbers c) at 0 ≡ n = ap (λ l. get_or l at 0) (sym same) ∙ number_at mid.requests at n number in
    let inside : at < length (numbers c) = omega (arith, less, count_is mid, ap length same) in
    let taken : take (at + 1) (numbers c) ≡ take at (numbers c) ++ n ∷ [] = take_more (numbers c) at inside ∙ ap (λ k. take at (numbers c) ++ k ∷ []) there in
    subst (λ l. Runs Turn c l now (ss ++ ts)) (sym taken) (runs_more Turn c mid now (take at (numbers c)) n ss ts r t)

pub sweeps_on : (Turn : TurnOn ClientState ℕ) (c mid now : ClientState) (at n : ℕ) (a b d : Option Traffic) → numbers mid ≡ numbers c → at < length mid.requests
    → option_map (λ q. q.plan.number) (slice_get mid.requests at) ≡ Some n → Sweeps Turn c at mid a b → DoesOne {E = Failed} Turn mid n now b d (Ok tt) → Sweeps Turn c (at + 1) now a d
sweeps_on Turn c mid now at n a b d same less number s o = (s.0 ++ o.0, grew_more a b d [] [] s.0 o.0 s.1 o.2, one_more Turn c mid now at n s.0 o.0 same less number s.2 o.1)

pub sweeps_lost : (Turn : TurnOn ClientState ℕ) (c mid now : ClientState) (at n : ℕ) (a b d : Option Traffic) (e : Failed) → numbers mid ≡ numbers c → at < length mid.requests
    → option_map (λ q. q.plan.number) (slice_get mid.requests at) ≡ Some n → Sweeps Turn c at mid a b → DoesOne {E = Failed} Turn mid n now b d (Err e) → DoesAll {E = Failed} Turn c now a d (Err e)
sweeps_lost Turn c mid now at n a b d e same less number s o = (
  s.0,
  subst (λ l. Grew a d [] l) (append_nil s.0) (grew_more a b d [] [] s.0 [] s.1 o.2.2),
  o.2.0,
  at + 1,
  subst (λ l. Runs Turn c (take (at + 1) (numbers c)) now (s.0 ++ l)) o.2.1 (one_more Turn c mid now at n s.0 o.0 same less number s.2 o.1),
)

pub sweeps_all : (Turn : TurnOn ClientState ℕ) (c now : ClientState) (at : ℕ) (a b : Option Traffic) → numbers now ≡ numbers c → length now.requests ≤ at → Sweeps Turn c at now a b → DoesAll {E = Failed} Turn c now a b (Ok tt)
sweeps_all Turn c now at a b same all s =
    (s.0, s.1, subst (λ l. Runs Turn c l now s.0) (taken_all c at (omega (arith, all, count_is c, count_is now, ap length same))) s.2)
