-- From the tree to straight code: names become slots, arguments and numbers, and loops become their turns.
use Rattle.std.specs.Prelude.{ℕ, zero, suc, ◌+◌, ◌-◌, nat_lt, ◌∷◌, if◌then◌else◌, Option, Some, None, option_map}
use Rattle.iter_syntax.specs.Tree.{Ex, Sts}
use Rattle.iter_syntax.specs.Tree as t
use Rattle.iter_check.specs.Layout.{text}
use Rattle.iter_unroll.specs.declared.scope.Meant.{Meant}
use Rattle.iter_unroll.specs.declared.scope.Meant.TheVariants as m
use Rattle.iter_unroll.specs.Flat.{Fx, Fs}
use Rattle.iter_unroll.specs.Flat as f
use Rattle.iter_unroll.specs.unrolling.Scope.{Env, lookup, Shape, map2, map3, map4, index}
use Rattle.iter_unroll.specs.Uses.{element_of}

abbrev pub named : Meant → Fx
named (m.Slot k) = f.slot k
named (m.Number i) = f.num i
named (m.Argument k) = f.arg k

abbrev pub flat_ex : Shape → Env → Ex → Option Fx
flat_ex sh env (t.num p n) = Some (f.num n)
flat_ex sh env (t.null p) = Some f.null
flat_ex sh env (t.name w) = option_map named (lookup (text w) env)
flat_ex sh env (t.cur p) = Some f.cur
flat_ex sh env (t.cur_field p w) = option_map (λ u. f.cur_field u.0 u.1) (element_of sh.record_fields w (Some 0))
flat_ex sh env (t.cur_item p w i) = option_map (λ u. f.cur_field u.0 u.1) (element_of sh.record_fields w (index env i))
flat_ex sh env (t.pad_field p w) = option_map (λ u. f.pad_field u.0 u.1) (element_of sh.pad_fields w (Some 0))
flat_ex sh env (t.pad_item p w i) = option_map (λ u. f.pad_field u.0 u.1) (element_of sh.pad_fields w (index env i))
flat_ex sh env (t.not p e) = option_map f.not (flat_ex sh env e)
flat_ex sh env (t.flip p e) = option_map f.flip (flat_ex sh env e)
flat_ex sh env (t.bin p o a b) = map2 (f.bin o) (flat_ex sh env a) (flat_ex sh env b)
flat_ex sh env (t.at p a b) = map2 f.at (flat_ex sh env a) (flat_ex sh env b)

-- one list after another
abbrev pub join : Fs → Fs → Fs
join f.end b = b
join (f.put_slot k e rest) b = f.put_slot k e (join rest b)
join (f.put_pad o w e rest) b = f.put_pad o w e (join rest b)
join (f.put_cur o w e rest) b = f.put_cur o w e (join rest b)
join (f.choose e first other rest) b = f.choose e first other (join rest b)
join (f.done rest) b = f.done (join rest b)
join (f.go e rest) b = f.go e (join rest b)

-- the slot of a let in scope
abbrev pub let_slot : Option Meant → Option ℕ
let_slot None = None
let_slot (Some (m.Slot k)) = Some k
let_slot (Some (m.Number i)) = None
let_slot (Some (m.Argument k)) = None

-- there are 8 slots
abbrev pub if_room : ℕ → Option Fs → Option Fs
if_room n o = if nat_lt n 8 then o else None

-- a block once for each number, from `i` on in so many turns
abbrev pub flat_turns : (ℕ → Option Fs) → ℕ → ℕ → Option Fs
flat_turns b i zero = Some f.end
flat_turns b i (suc n) = map2 join (b i) (flat_turns b (i + 1) n)

-- the straight code, where `n` lets are in scope
abbrev pub flat_of : Shape → ℕ → Env → Sts → Option Fs
flat_of sh n env t.end = Some f.end
flat_of sh n env (t.bind p w e rest) =
    if_room n (map2 (f.put_slot n) (flat_ex sh env e) (flat_of sh (suc n) ((text w, m.Slot n) ∷ env) rest))
flat_of sh n env (t.set p w e rest) = map3 f.put_slot (let_slot (lookup (text w) env)) (flat_ex sh env e) (flat_of sh n env rest)
flat_of sh n env (t.set_pad p w e rest) =
    map3 (λ u. f.put_pad u.0 u.1) (element_of sh.pad_fields w (Some 0)) (flat_ex sh env e) (flat_of sh n env rest)
flat_of sh n env (t.set_pad_item p w i e rest) =
    map3 (λ u. f.put_pad u.0 u.1) (element_of sh.pad_fields w (index env i)) (flat_ex sh env e) (flat_of sh n env rest)
flat_of sh n env (t.set_cur p w e rest) =
    map3 (λ u. f.put_cur u.0 u.1) (element_of sh.record_fields w (Some 0)) (flat_ex sh env e) (flat_of sh n env rest)
flat_of sh n env (t.set_cur_item p w i e rest) =
    map3 (λ u. f.put_cur u.0 u.1) (element_of sh.record_fields w (index env i)) (flat_ex sh env e) (flat_of sh n env rest)
flat_of sh n env (t.when p c first rest) =
    map3 (λ x a. f.choose x a f.end) (flat_ex sh env c) (flat_of sh n env first) (flat_of sh n env rest)
flat_of sh n env (t.choose p c first other rest) =
    map4 f.choose (flat_ex sh env c) (flat_of sh n env first) (flat_of sh n env other) (flat_of sh n env rest)
flat_of sh n env (t.loop p w first past body rest) =
    map2 join (flat_turns (λ i. flat_of sh n ((text w, m.Number i) ∷ env) body) first (past - first)) (flat_of sh n env rest)
flat_of sh n env (t.done p rest) = option_map f.done (flat_of sh n env rest)
flat_of sh n env (t.go p e rest) = map2 f.go (flat_ex sh env e) (flat_of sh n env rest)
