-- What the straight code of a statement is, whatever comes after it.
use Rattle.std.specs.Prelude.{◌≡◌, ℕ, ◌-◌, ◌≤◌, List, [], ◌∷◌, ◌++◌, length, drop, Option, Some, None, option_map, Result, Ok, Err, ⊤}
use Rattle.iter_syntax.specs.declared.tree.Block.{Block}
use Rattle.iter_syntax.specs.Tree.{Sts, block}
use Rattle.iter_unroll.specs.declared.tree.FlatStmt.{FlatStmt}
use Rattle.iter_unroll.specs.declared.scope.Scope.{Scope}
use Rattle.iter_unroll.specs.declared.refused.Refused.{Refused}
use Rattle.iter_unroll.specs.declared.refused.Refused.TheVariants.{Unknown, Memory}
use Rattle.iter_unroll.specs.Flat.{Fs}
use Rattle.iter_unroll.specs.Tree.{fst, fsts}
use Rattle.iter_unroll.specs.unrolling.Scope.{Env, Shape}
use Rattle.iter_unroll.specs.unrolling.Flattened.{join, flat_of}
use Rattle.iter_unroll.specs.unrolling.Views.{env_of}
use Rattle.iter_unroll.specs.unrolling.Tied.{Never}

-- the straight code from a scope
abbrev pub flat_in : Shape → Scope → Sts → Option Fs
flat_in sh a ss = flat_of sh a.lets (env_of a.entries.items) ss

-- statements before a rest, if there is one
abbrev pub ahead : List FlatStmt → Option Fs → Option Fs
ahead out o = option_map (join (fsts out)) o

-- a statement put behind the others, or why there is none
abbrev pub Adds : {A : Type 0} → List FlatStmt → Result FlatStmt Refused → Result A Refused → List FlatStmt → Type 0
Adds out (Ok s) (Ok x) out2 = out2 ≡ out ++ s ∷ []
Adds out (Ok s) (Err Unknown) out2 = Never
Adds out (Ok s) (Err Memory) out2 = ⊤
Adds out (Err e) (Ok x) out2 = Never
Adds out (Err e) (Err f) out2 = e ≡ f

-- one statement of straight code, from a scope to another
abbrev pub One : Shape → (Sts → Sts) → Scope → Result FlatStmt Refused → Scope → Type 0
One sh h a (Ok s) b = (rest : Sts) → flat_in sh a (h rest) ≡ option_map (fst s) (flat_in sh b rest)
One sh h a (Err Unknown) b = (rest : Sts) → flat_in sh a (h rest) ≡ None
One sh h a (Err Memory) b = ⊤

-- one statement of straight code that brings no name in scope
abbrev pub Keeps : Shape → (Sts → Sts) → Env → Result FlatStmt Refused → Type 0
Keeps sh h env (Ok s) = (n : ℕ) (rest : Sts) → flat_of sh n env (h rest) ≡ option_map (fst s) (flat_of sh n env rest)
Keeps sh h env (Err Unknown) = (n : ℕ) (rest : Sts) → flat_of sh n env (h rest) ≡ None
Keeps sh h env (Err Memory) = ⊤

-- any number of them, behind those that are there
abbrev pub Steps : {A : Type 0} → Shape → (Sts → Sts) → Scope → List FlatStmt → Result A Refused → Scope → List FlatStmt → Type 0
Steps sh h a out (Ok x) b out2 = (rest : Sts) → ahead out (flat_in sh a (h rest)) ≡ ahead out2 (flat_in sh b rest)
Steps sh h a out (Err Unknown) b out2 = (rest : Sts) → flat_in sh a (h rest) ≡ None
Steps sh h a out (Err Memory) b out2 = ⊤

-- those of a whole row
abbrev pub Rowed : {A : Type 0} → List FlatStmt → Option Fs → Result A Refused → List FlatStmt → Type 0
Rowed out o (Ok x) out2 = ahead out o ≡ Some (fsts out2)
Rowed out o (Err Unknown) out2 = o ≡ None
Rowed out o (Err Memory) out2 = ⊤

abbrev pub option_block : Option Block → Option Sts
option_block o = option_map block o

-- the older names are there
abbrev pub Grew : Scope → Scope → Type 0
Grew a b = (length a.entries.items ≤ length b.entries.items) × (drop (length b.entries.items - length a.entries.items) (env_of b.entries.items) ≡ env_of a.entries.items)

abbrev pub SameScope : Scope → Scope → Type 0
SameScope a b = (b.lets ≡ a.lets) × (env_of b.entries.items ≡ env_of a.entries.items)
