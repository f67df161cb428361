-- Rows, blocks and turns.
use Rattle.std.proofs.Common.{◌≡◌, ℕ, suc, ◌+◌, ◌-◌, ◌<◌, ◌≤◌, List, [], ◌∷◌, ◌++◌, length, drop, Option, Some, None, option_map, Result, Ok, Err, refl, sym, ap, ap₂, subst, ◌∙◌, arith}
use Rattle.iter_syntax.specs.declared.tree.Place.{Place}
use Rattle.iter_syntax.specs.declared.tree.Word.{Word}
use Rattle.iter_syntax.specs.declared.tree.Stmt.{Stmt}
use Rattle.iter_syntax.specs.Tree.{Ex, Sts, st, sts, block}
use Rattle.iter_syntax.specs.Tree as t
use Rattle.iter_check.specs.Layout.{text}
use Rattle.iter_unroll.specs.declared.tree.FlatStmt.{FlatStmt}
use Rattle.iter_unroll.specs.declared.tree.FlatStmt.TheOpen as P
use Rattle.iter_unroll.specs.declared.tree.FlatStmt.TheFolds.{fold_out-FlatStmt}
use Rattle.iter_unroll.specs.Flat.{Fx, Fs}
use Rattle.iter_unroll.specs.unrolling.Flattened.{join}
use Rattle.iter_unroll.specs.Flat as f
use Rattle.iter_unroll.specs.declared.scope.Meant.TheVariants as m
use Rattle.iter_unroll.specs.unrolling.Scope.{Env, Shape, map2, map3, map4}
use Rattle.iter_unroll.specs.unrolling.Flattened.{flat_turns, flat_ex, flat_of}
use Rattle.iter_unroll.specs.Tree.{fx, fst, fsts, fst_step}
use Rattle.iter_syntax.specs.declared.tree.Block.{Block}
use Rattle.iter_syntax.proofs.FoldLaws.{block_is}
use Rattle.iter_unroll.specs.declared.scope.Scope.{Scope}
use Rattle.iter_unroll.specs.declared.refused.Refused.{Refused}
use Rattle.iter_unroll.specs.declared.refused.Refused.TheVariants.{Unknown, Memory}
use Rattle.iter_unroll.specs.unrolling.Views.{env_of, Flattens}
use Rattle.iter_unroll.specs.unrolling.Tied.{Never}
use Rattle.iter_unroll.specs.unrolling.Steps.{ahead, flat_in, Adds, One, Keeps, Steps, Rowed, SameScope, option_block}
use Rattle.iter_unroll.specs.declared.tree.FlatExpr.{FlatExpr}
use Rattle.iter_unroll.specs.declared.tree.FlatStmt.TheVariants as T
use Rattle.std.proofs.lemmas.List.{drop_all}
use Rattle.iter_unroll.proofs.unrolling.Flats.{same_map, three_map, fst_done, fst_if}

pub join_end : (a : Fs) → join a f.end ≡ a
join_end f.end = refl
join_end (f.put_slot k e rest) = ap (f.put_slot k e) (join_end rest)
join_end (f.put_pad o w e rest) = ap (f.put_pad o w e) (join_end rest)
join_end (f.put_cur o w e rest) = ap (f.put_cur o w e) (join_end rest)
join_end (f.choose e x y rest) = ap (f.choose e x y) (join_end rest)
join_end (f.done rest) = ap f.done (join_end rest)
join_end (f.go e rest) = ap (f.go e) (join_end rest)

pub join_join : (a b c : Fs) → join (join a b) c ≡ join a (join b c)
join_join f.end b c = refl
join_join (f.put_slot k e rest) b c = ap (f.put_slot k e) (join_join rest b c)
join_join (f.put_pad o w e rest) b c = ap (f.put_pad o w e) (join_join rest b c)
join_join (f.put_cur o w e rest) b c = ap (f.put_cur o w e) (join_join rest b c)
join_join (f.choose e x y rest) b c = ap (f.choose e x y) (join_join rest b c)
join_join (f.done rest) b c = ap f.done (join_join rest b c)
join_join (f.go e rest) b c = ap (f.go e) (join_join rest b c)

step_join : (l : P.FlatStmt-F (Fs → Fs)) (q r : Fs) → join (fst_step l q) r ≡ fst_step l (join q r)
step_join (P.Local k e) q r = refl
step_join (P.Pad u e) q r = refl
step_join (P.Cur u e) q r = refl
step_join (P.If e x y) q r = refl
step_join P.Done q r = refl
step_join (P.Go e) q r = refl

fst_join : (s : FlatStmt) (q r : Fs) → join (fst s q) r ≡ fst s (join q r)
fst_join s q r = subst (λ (h : Fs → Fs). join (h q) r ≡ h (join q r)) (sym (fold_out-FlatStmt (Fs → Fs) fst_step s)) (step_join _ q r)

pub fsts_push : (ss : List FlatStmt) (s : FlatStmt) (r : Fs) → join (fsts (ss ++ s ∷ [])) r ≡ join (fsts ss) (fst s r)
fsts_push [] s r = fst_join s f.end r
fsts_push (x ∷ ss) s r = fst_join x _ r ∙ ap (fst x) (fsts_push ss s r) ∙ sym (fst_join x (fsts ss) (fst s r))

-- a statement that was put behind the others
pub ahead_push : (ss out : List FlatStmt) (s : FlatStmt) (o q : Option Fs) → out ≡ ss ++ s ∷ [] → o ≡ option_map (fst s) q → ahead ss o ≡ ahead out q
ahead_push ss out s o None e h = ap (ahead ss) h
ahead_push ss out s o (Some r) e h = ap (ahead ss) h ∙ ap Some (sym (fsts_push ss s r) ∙ ap (λ l. join (fsts l) r) (sym e))

pub ahead_none : (ss : List FlatStmt) (o : Option Fs) → ahead ss o ≡ None → o ≡ None
ahead_none ss None e = refl
ahead_none ss (Some r) e = cc

pub ahead_end : (ss : List FlatStmt) → ahead ss (Some f.end) ≡ Some (fsts ss)
ahead_end ss = ap Some (join_end (fsts ss))

-- a block from nothing
pub ahead_nothing : (o : Option Fs) → ahead [] o ≡ o
ahead_nothing None = refl
ahead_nothing (Some r) = refl

some_is : (a b : Fs) → Some a ≡ Some b → a ≡ b
some_is a b e = cc

-- one turn and the others
pub ahead_turn : (ss out : List FlatStmt) (b o : Option Fs) → ahead ss b ≡ Some (fsts out) → ahead ss (map2 join b o) ≡ ahead out o
ahead_turn ss out None o e = cc
ahead_turn ss out (Some b) None e = refl
ahead_turn ss out (Some b) (Some r) e =
    let is : join (fsts ss) b ≡ fsts out = some_is _ _ e in
    ap Some (sym (join_join (fsts ss) b r) ∙ ap (λ x. join x r) is)

join_two : (a b o : Option Fs) → map2 join (map2 join a b) o ≡ map2 join a (map2 join b o)
join_two None b o = refl
join_two (Some x) None o = refl
join_two (Some x) (Some y) None = refl
join_two (Some x) (Some y) (Some z) = ap Some (join_join x y z)

pub turns_on : (b : ℕ → Option Fs) (i past : ℕ) (o : Option Fs) → i < past → map2 join (flat_turns b i (past - i)) o ≡ map2 join (b i) (map2 join (flat_turns b (i + 1) (past - (i + 1))) o)
turns_on b i past o h =
    let e : past - i ≡ suc (past - (i + 1)) = omega arith in
    ap (λ n. map2 join (flat_turns b i n) o) e ∙ join_two (b i) (flat_turns b (i + 1) (past - (i + 1))) o

end_two : (o : Option Fs) → map2 join (Some f.end) o ≡ o
end_two None = refl
end_two (Some r) = refl

pub turns_over : (b : ℕ → Option Fs) (i past : ℕ) (o : Option Fs) → past ≤ i → map2 join (flat_turns b i (past - i)) o ≡ o
turns_over b i past o h =
    let e : past - i ≡ 0 = omega arith in
    ap (λ n. map2 join (flat_turns b i n) o) e ∙ end_two o

never : {A : Type 0} → Never → A
never h = cc

-- the same, of statements that are the same
pub steps_same : {A : Type 0} (sh : Shape) (h k : Sts → Sts) (a b : Scope) (out out2 : List FlatStmt) (r : Result A Refused) → ((rest : Sts) → k rest ≡ h rest) → Steps sh h a out r b out2 → Steps sh k a out r b out2
steps_same sh h k a b out out2 (Ok x) e q = λ rest. ap (λ ss. ahead out (flat_in sh a ss)) (e rest) ∙ q rest
steps_same sh h k a b out out2 (Err Unknown) e q = λ rest. ap (flat_in sh a) (e rest) ∙ q rest
steps_same sh h k a b out out2 (Err Memory) e q = tt

-- one statement, added
pub one_steps : {A : Type 0} (sh : Shape) (h : Sts → Sts) (a b : Scope) (out out2 : List FlatStmt) (r : Result FlatStmt Refused) (q : Result A Refused) → One sh h a r b → Adds out r q out2 → Steps sh h a out q b out2
one_steps sh h a b out out2 (Ok s) (Ok x) o e = λ rest. ahead_push out out2 s _ _ e (o rest)
one_steps sh h a b out out2 (Ok s) (Err Unknown) o e = never e
one_steps sh h a b out out2 (Ok s) (Err Memory) o e = tt
one_steps sh h a b out out2 (Err f) (Ok x) o e = never e
one_steps sh h a b out out2 (Err Unknown) (Err Unknown) o e = o
one_steps sh h a b out out2 (Err Memory) (Err Memory) o e = tt
one_steps sh h a b out out2 (Err Unknown) (Err Memory) o e = tt
one_steps sh h a b out out2 (Err Memory) (Err Unknown) o e = cc

pub keeps_one : (sh : Shape) (h : Sts → Sts) (a : Scope) (env : Env) (r : Result FlatStmt Refused) → env ≡ env_of a.entries.items → Keeps sh h env r → One sh h a r a
keeps_one sh h a env (Ok s) e k = λ rest. subst (λ v. flat_of sh a.lets v (h rest) ≡ option_map (fst s) (flat_of sh a.lets v rest)) e (k a.lets rest)
keeps_one sh h a env (Err Unknown) e k = λ rest. subst (λ v. flat_of sh a.lets v (h rest) ≡ None) e (k a.lets rest)
keeps_one sh h a env (Err Memory) e k = tt

-- a block is its row, from nothing
pub block_ok : (sh : Shape) (a : Scope) (b : Block) (ss : List Stmt) (old out : List FlatStmt) → old ≡ [] → ss ≡ b.stmts → ahead old (flat_in sh a (sts ss)) ≡ Some (fsts out) → flat_in sh a (block b) ≡ Some (fsts out)
block_ok sh a b ss old out e q h =
    ap (flat_in sh a) (block_is b) ∙ ap (λ l. flat_in sh a (sts l)) (sym q) ∙ sym (ahead_nothing _) ∙ ap (λ l. ahead l (flat_in sh a (sts ss))) (sym e) ∙ h

pub block_err : (A : Type 0) (sh : Shape) (n n2 : ℕ) (env env2 : Env) (b : Block) (ss : List Stmt) (old out : List FlatStmt) (e : Refused) → n ≡ n2 → env ≡ env2 → ss ≡ b.stmts → Rowed {A = A} old (flat_of sh n env (sts ss)) (Err e) out → Rowed {A = A} old (flat_of sh n2 env2 (block b)) (Err e) out
block_err A sh n n2 env env2 b ss old out Unknown m v q h = ap₂ (λ k x. flat_of sh k x (block b)) (sym m) (sym v) ∙ ap (flat_of sh n env) (block_is b) ∙ ap (λ l. flat_of sh n env (sts l)) (sym q) ∙ h
block_err A sh n n2 env env2 b ss old out Memory m v q h = tt

pub flattens_err : (A : Type 0) (o : Option Fs) (old out : List FlatStmt) (e : Refused) → Rowed {A = A} old o (Err e) out → Flattens {A = List FlatStmt} fsts (Err e) o
flattens_err A o old out Unknown h = h
flattens_err A o old out Memory h = tt

pub turn_ok : (sh : Shape) (n n2 : ℕ) (env env2 : Env) (b : Block) (ss : List Stmt) (old out : List FlatStmt) → n ≡ n2 → env ≡ env2 → ss ≡ b.stmts → ahead old (flat_of sh n env (sts ss)) ≡ Some (fsts out) → ahead old (flat_of sh n2 env2 (block b)) ≡ Some (fsts out)
turn_ok sh n n2 env env2 b ss old out m v q h =
    ap₂ (λ k x. ahead old (flat_of sh k x (block b))) (sym m) (sym v) ∙ ap (λ x. ahead old (flat_of sh n env x)) (block_is b) ∙ ap (λ l. ahead old (flat_of sh n env (sts l))) (sym q) ∙ h

-- the rest from scopes that are the same
pub same_rest : (sh : Shape) (a b : Scope) (rest : Sts) → SameScope a b → flat_in sh a rest ≡ flat_in sh b rest
same_rest sh a b rest s = ap₂ (λ n v. flat_of sh n v rest) (sym s.0) (sym s.1)

pub done_one : (sh : Shape) (a : Scope) (p : Place) → One sh (λ rest. t.done p rest) a (Ok T.Done) a
done_one sh a p = λ rest. same_map _ _ (flat_in sh a rest) (λ r. sym (fst_done r))

pub if_none : (sh : Shape) (a b : Scope) (env : Env) (p : Place) (c : Ex) (x : FlatExpr) (first : Sts) (second : Option Block) (fy l : List FlatStmt) → env ≡ env_of a.entries.items → second ≡ None → l ≡ [] → flat_ex sh env c ≡ Some (fx x) → flat_in sh a first ≡ Some (fsts fy) → SameScope a b → (rest : Sts) → flat_in sh a (t.branch p c first (option_block second) rest) ≡ option_map (fst (T.If x fy l)) (flat_in sh b rest)
if_none sh a b env p c x first second fy l v n e hx hy s rest =
    ap (λ o. flat_in sh a (t.branch p c first (option_block o) rest)) n
    ∙ ap₂ (λ o q. map3 (λ y z. f.choose y z f.end) o q (flat_in sh a rest)) (ap (λ w. flat_ex sh w c) (sym v) ∙ hx) hy
    ∙ three_map (λ y z. f.choose y z f.end) (fx x) (fsts fy) (flat_in sh a rest)
    ∙ same_map _ _ (flat_in sh a rest) (λ r. sym (fst_if x fy [] r))
    ∙ ap (λ k. option_map (fst (T.If x fy k)) (flat_in sh a rest)) (sym e)
    ∙ ap (option_map (fst (T.If x fy l))) (same_rest sh a b rest s)

four_map : {A B C D E : Type 0} (h : A → B → C → D → E) (x : A) (y : B) (z : C) (o : Option D) → map4 h (Some x) (Some y) (Some z) o ≡ option_map (h x y z) o
four_map h x y z o = three_map (h x) y z o

pub if_some : (sh : Shape) (a b d : Scope) (env : Env) (p : Place) (c : Ex) (x : FlatExpr) (first : Sts) (second : Option Block) (other : Block) (fy fn : List FlatStmt) → env ≡ env_of a.entries.items → second ≡ Some other → flat_ex sh env c ≡ Some (fx x) → flat_in sh a first ≡ Some (fsts fy) → SameScope a b → flat_in sh b (block other) ≡ Some (fsts fn) → SameScope b d → (rest : Sts) → flat_in sh a (t.branch p c first (option_block second) rest) ≡ option_map (fst (T.If x fy fn)) (flat_in sh d rest)
if_some sh a b d env p c x first second other fy fn v n hx hy s hn q rest =
    ap (λ o. flat_in sh a (t.branch p c first (option_block o) rest)) n
    ∙ ap (λ o. map4 f.choose o (flat_in sh a first) (flat_in sh a (block other)) (flat_in sh a rest)) (ap (λ w. flat_ex sh w c) (sym v) ∙ hx)
    ∙ ap₂ (λ o u. map4 f.choose (Some (fx x)) o u (flat_in sh a rest)) hy (same_rest sh a b (block other) s ∙ hn)
    ∙ four_map f.choose (fx x) (fsts fy) (fsts fn) (flat_in sh a rest)
    ∙ same_map _ _ (flat_in sh a rest) (λ r. sym (fst_if x fy fn r))
    ∙ ap (option_map (fst (T.If x fy fn))) (same_rest sh a b rest s ∙ same_rest sh b d rest q)

-- a row at its end
pub row_over : (sh : Shape) (a : Scope) (ss : List Stmt) (i : ℕ) (out : List FlatStmt) → length ss ≤ i → ahead out (flat_in sh a (sts (drop i ss))) ≡ Some (fsts out)
row_over sh a ss i out h = ap (λ l. ahead out (flat_in sh a (sts l))) (drop_all i ss h) ∙ ahead_end out

-- a turn of a loop
abbrev pub turn_of : Shape → Scope → Word → Sts → ℕ → Option Fs
turn_of sh a w body j = flat_of sh a.lets ((text w, m.Number j) ∷ env_of a.entries.items) body

-- the turns that are left
pub record Loop (b : ℕ → Option Fs) (before now : Scope) (old out : List FlatStmt) (first i past : ℕ) : Type 0 where
  pub same : (o : Option Fs) → ahead old (map2 join (flat_turns b first (past - first)) o) ≡ ahead out (map2 join (flat_turns b i (past - i)) o)
  pub scope : SameScope before now

turn_now : (sh : Shape) (before now : Scope) (w : Word) (body : Sts) (i : ℕ) → SameScope before now → turn_of sh before w body i ≡ turn_of sh now w body i
turn_now sh before now w body i s = ap₂ (λ n v. flat_of sh n ((text w, m.Number i) ∷ v) body) (sym s.0) (sym s.1)

pub loop_on : (sh : Shape) (before now after : Scope) (w : Word) (body : Sts) (old out out2 : List FlatStmt) (first i past : ℕ) → i < past → Loop (turn_of sh before w body) before now old out first i past → ahead out (turn_of sh now w body i) ≡ Some (fsts out2) → SameScope now after → Loop (turn_of sh before w body) before after old out2 first (i + 1) past
loop_on sh before now after w body old out out2 first i past h l e s =
    record {
      same = λ o. l.same o ∙ ap (ahead out) (turns_on (turn_of sh before w body) i past o h) ∙ ahead_turn out out2 (turn_of sh before w body i) _ (ap (ahead out) (turn_now sh before now w body i l.scope) ∙ e);
      scope = (s.0 ∙ l.scope.0, s.1 ∙ l.scope.1);
    }

pub loop_err : (A B : Type 0) (sh : Shape) (before now after : Scope) (p : Place) (w : Word) (body : Sts) (old out out2 : List FlatStmt) (first i past : ℕ) (e : Refused) → i < past → Loop (turn_of sh before w body) before now old out first i past → Rowed {A = A} out (turn_of sh now w body i) (Err e) out2 → Steps {A = B} sh (λ rest. t.loop p w first past body rest) before old (Err e) after out2
loop_err A B sh before now after p w body old out out2 first i past Unknown h l r = λ rest.
    ahead_none old _
    (l.same (flat_in sh before rest) ∙ ap (ahead out) (turns_on (turn_of sh before w body) i past (flat_in sh before rest) h ∙ ap (λ b. map2 join b (map2 join (flat_turns (turn_of sh before w body) (i + 1) (past - (i + 1))) (flat_in sh before rest))) (turn_now sh before now w body i l.scope ∙ r)))
loop_err A B sh before now after p w body old out out2 first i past Memory h l r = tt

-- one statement that was added
pub added : {A : Type 0} (sh : Shape) (h k : Sts → Sts) (a b : Scope) (out out2 : List FlatStmt) (r : Result FlatStmt Refused) (q : Result A Refused) → ((rest : Sts) → k rest ≡ h rest) → One sh h a r b → Adds out r q out2 → Steps sh k a out q b out2
added sh h k a b out out2 r q e o d = steps_same sh h k a b out out2 q e (one_steps sh h a b out out2 r q o d)
