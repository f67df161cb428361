-- The bounds that are found are the least that hold all fields.
use Rattle.std.proofs.Common.{◌≡◌, ℕ, suc, ◌+◌, ◌-◌, ◌*◌, ◌<◌, ◌≤◌, List, [], ◌∷◌, ◌++◌, length, drop, get_or, Option, Some, None, refl, sym, ap, subst, ◌∙◌, arith, le_refl, add-one, drop-cons}
use Rattle.std.specs.Prelude.{⊤, min, max}
use Rattle.iter_check.specs.Layout.{width_bytes}
use Rattle.iter_unroll.specs.declared.tree.FlatExpr.{FlatExpr}
use Rattle.iter_unroll.specs.declared.tree.FlatStmt.{FlatStmt}
use Rattle.iter_unroll.specs.declared.tree.FlatStmt.TheVariants as T
use Rattle.iter_unroll.specs.declared.tree.FlatStmt.TheOpen as P
use Rattle.iter_unroll.specs.declared.tree.FlatStmt.TheFolds.{fold_out-FlatStmt}
use Rattle.iter_unroll.specs.Flat.{Fx, Fs}
use Rattle.iter_unroll.specs.Flat as f
use Rattle.iter_unroll.specs.Tree.{fx, fst, fsts, fst_step}
use Rattle.iter_unroll.specs.Limits.{fx_nodes, fs_nodes}
use Rattle.iter_unroll.specs.Uses.{Use, fx_uses, fs_uses}
use Rattle.iter_unroll.specs.Span.{HoldsAll, IsSpan}
use Rattle.iter_unroll.specs.unrolling.Tied.{Never}
use Rattle.iter_unroll.specs.unrolling.Bounds.{wider, wider_fx, wider_fs}
use Rattle.iter_unroll.proofs.accepted.Options.{never}
use Rattle.iter_unroll.proofs.unrolling.Flats.{fst_if}

-- with the fields of a list
abbrev pub wider_all : Option (ℕ × ℕ) → List Use → Option (ℕ × ℕ)
wider_all b [] = b
wider_all b (u ∷ uses) = wider_all (wider b u) uses

wider_append : (b : Option (ℕ × ℕ)) (xs ys : List Use) → wider_all b (xs ++ ys) ≡ wider_all (wider_all b xs) ys
wider_append b [] ys = refl
wider_append b (x ∷ xs) ys = wider_append (wider b x) xs ys

fx_all : (b : Option (ℕ × ℕ)) (e : Fx) → wider_fx b e ≡ wider_all b (fx_uses e)
fx_all b (f.num n) = refl
fx_all b f.null = refl
fx_all b (f.arg k) = refl
fx_all b (f.slot k) = refl
fx_all b f.cur = refl
fx_all b (f.cur_field o w) = refl
fx_all b (f.pad_field o w) = refl
fx_all b (f.not e) = fx_all b e
fx_all b (f.flip e) = fx_all b e
fx_all b (f.bin o x y) = fx_all (wider_fx b x) y ∙ ap (λ c. wider_all c (fx_uses y)) (fx_all b x) ∙ sym (wider_append b (fx_uses x) (fx_uses y))
fx_all b (f.at x y) = fx_all (wider_fx b x) y ∙ ap (λ c. wider_all c (fx_uses y)) (fx_all b x) ∙ sym (wider_append b (fx_uses x) (fx_uses y))

-- an expression, then more
then_all : (b c : Option (ℕ × ℕ)) (xs ys : List Use) → c ≡ wider_all b xs → (d : Option (ℕ × ℕ)) → d ≡ wider_all c ys → d ≡ wider_all b (xs ++ ys)
then_all b c xs ys e d h = h ∙ ap (λ z. wider_all z ys) e ∙ sym (wider_append b xs ys)

pub fs_all : (b : Option (ℕ × ℕ)) (ss : Fs) → wider_fs b ss ≡ wider_all b (fs_uses ss)
fs_all b f.end = refl
fs_all b (f.put_slot k e rest) = then_all b _ (fx_uses e) (fs_uses rest) (fx_all b e) _ (fs_all (wider_fx b e) rest)
fs_all b (f.put_pad o w e rest) = then_all b _ (fx_uses e) (fs_uses rest) (fx_all b e) _ (fs_all (wider_fx b e) rest)
fs_all b (f.put_cur o w e rest) = then_all (wider b (o, w)) _ (fx_uses e) (fs_uses rest) (fx_all (wider b (o, w)) e) _ (fs_all (wider_fx (wider b (o, w)) e) rest)
fs_all b (f.choose e x y rest) =
    then_all b _ (fx_uses e) (fs_uses x ++ (fs_uses y ++ fs_uses rest)) (fx_all b e) _
    (then_all (wider_fx b e) _ (fs_uses x) (fs_uses y ++ fs_uses rest) (fs_all (wider_fx b e) x) _
    (then_all (wider_fs (wider_fx b e) x) _ (fs_uses y) (fs_uses rest) (fs_all (wider_fs (wider_fx b e) x) y) _ (fs_all (wider_fs (wider_fs (wider_fx b e) x) y) rest)))
fs_all b (f.done rest) = fs_all b rest
fs_all b (f.go e rest) = then_all b _ (fx_uses e) (fs_uses rest) (fx_all b e) _ (fs_all (wider_fx b e) rest)

-- bounds, from where to past where, hold fields
abbrev pub Within : ℕ × ℕ → List Use → Type 0
Within c [] = ⊤
Within c (u ∷ uses) = ((c.0 ≤ u.0) × (u.0 + width_bytes u.1 ≤ c.1)) × Within c uses

within_more : (c d : ℕ × ℕ) (uses : List Use) → d.0 ≤ c.0 → c.1 ≤ d.1 → Within c uses → Within d uses
within_more c d [] h k w = tt
within_more c d (u ∷ uses) h k w = ((omega (arith, h, w.0.0), omega (arith, k, w.0.1)), within_more c d uses h k w.1)

-- the least bounds of some that are there and of fields
pub record Least (b : ℕ × ℕ) (uses : List Use) (c : ℕ × ℕ) : Type 0 where
  pub from : c.0 ≤ b.0
  pub past : b.1 ≤ c.1
  pub holds : Within c uses
  pub least : (d : ℕ × ℕ) → d.0 ≤ b.0 → b.1 ≤ d.1 → Within d uses → (d.0 ≤ c.0) × (c.1 ≤ d.1)

abbrev pub IsLeast : ℕ × ℕ → List Use → Option (ℕ × ℕ) → Type 0
IsLeast b uses None = Never
IsLeast b uses (Some c) = Least b uses c

more_least : (b : ℕ × ℕ) (u : Use) (uses : List Use) (o : Option (ℕ × ℕ)) → IsLeast (min u.0 b.0, max (u.0 + width_bytes u.1) b.1) uses o → IsLeast b (u ∷ uses) o
more_least b u uses None h = h
more_least b u uses (Some c) h =
    let from = h.from in
    let past = h.past in
    record {
      from = omega (arith, from);
      past = omega (arith, past);
      holds = ((omega (arith, from), omega (arith, past)), h.holds);
      least = λ d p q w. let w0 = w.0.0 in let w1 = w.0.1 in h.least d (omega (arith, p, w0)) (omega (arith, q, w1)) w.1;
    }

all_least : (b : ℕ × ℕ) (uses : List Use) → IsLeast b uses (wider_all (Some b) uses)
all_least b [] = record { from = le_refl b.0; past = le_refl b.1; holds = tt; least = λ d p q w. (p, q) }
all_least b (u ∷ uses) = more_least b u uses _ (all_least (min u.0 b.0, max (u.0 + width_bytes u.1) b.1) uses)

-- the same, by offset and length
held : (c : ℕ × ℕ) (uses : List Use) → c.0 ≤ c.1 → Within c uses → HoldsAll (c.0, c.1 - c.0) uses
held c [] le w = tt
held c (u ∷ uses) le w = let w0 = w.0.0 in let w1 = w.0.1 in ((w0, omega (arith, le, w1)), held c uses le w.1)

within : (j : ℕ × ℕ) (uses : List Use) → HoldsAll j uses → Within (j.0, j.0 + j.1) uses
within j [] h = tt
within j (u ∷ uses) h = (h.0, within j uses h.1)

-- what is found of fields: nothing of none, else their span, which does not end past what holds them
abbrev pub Spans : List Use → Option (ℕ × ℕ) → Type 0
Spans uses None = uses ≡ []
Spans uses (Some c) = (c.0 ≤ c.1) × IsSpan uses (c.0, c.1 - c.0) × ((j : ℕ × ℕ) → HoldsAll j uses → c.1 ≤ j.0 + j.1)

first_spans : (u : Use) (uses : List Use) (o : Option (ℕ × ℕ)) → IsLeast (u.0, u.0 + width_bytes u.1) uses o → Spans (u ∷ uses) o
first_spans u uses None h = never h
first_spans u uses (Some c) h =
    let from = h.from in
    let past = h.past in
    let le : c.0 ≤ c.1 = omega (arith, from, past) in
    let bound : (j : ℕ × ℕ) → HoldsAll j (u ∷ uses) → (j.0 ≤ c.0) × (c.1 ≤ j.0 + j.1) = λ j w. h.least (j.0, j.0 + j.1) w.0.0 w.0.1 (within j uses w.1) in
    (le, (held c (u ∷ uses) le ((from, past), h.holds), λ j w. ((bound j w).0, over c.0 c.1 (j.0 + j.1) le (bound j w).1)), λ j w. (bound j w).1)
  where
    over : (a b n : ℕ) → a ≤ b → b ≤ n → a + (b - a) ≤ n
    over a b n h q = omega (arith, h, q)

pub spans : (uses : List Use) → Spans uses (wider_all None uses)
spans [] = refl
spans (u ∷ uses) = first_spans u uses _ (all_least (u.0, u.0 + width_bytes u.1) uses)

-- statements in a row
step_nodes : (l : P.FlatStmt-F (Fs → Fs)) (rest : Fs) → fs_nodes (fst_step l rest) ≡ fs_nodes (fst_step l f.end) + fs_nodes rest
step_nodes (P.Local k e) rest = omega arith
step_nodes (P.Pad u e) rest = omega arith
step_nodes (P.Cur u e) rest = omega arith
step_nodes (P.If e x y) rest = omega arith
step_nodes P.Done rest = omega arith
step_nodes (P.Go e) rest = omega arith

pub fst_nodes : (s : FlatStmt) (rest : Fs) → fs_nodes (fst s rest) ≡ fs_nodes (fst s f.end) + fs_nodes rest
fst_nodes s rest = subst (λ (h : Fs → Fs). fs_nodes (h rest) ≡ fs_nodes (h f.end) + fs_nodes rest) (sym (fold_out-FlatStmt (Fs → Fs) fst_step s)) (step_nodes _ rest)

pub fsts_drop : (ss : List FlatStmt) (i : ℕ) (s : FlatStmt) → i < length ss → s ≡ get_or ss i s → fsts (drop i ss) ≡ fst s (fsts (drop (i + 1) ss))
fsts_drop ss i s h e =
    ap fsts (drop-cons ss i s h) ∙ ap (λ u. fst u (fsts (drop (suc i) ss))) (sym e) ∙ ap (λ k. fst s (fsts (drop k ss))) (sym (add-one i))

pub nodes_drop : (ss : List FlatStmt) (i : ℕ) (s : FlatStmt) → i < length ss → s ≡ get_or ss i s → fs_nodes (fsts (drop i ss)) ≡ fs_nodes (fst s f.end) + fs_nodes (fsts (drop (i + 1) ss))
nodes_drop ss i s h e = ap fs_nodes (fsts_drop ss i s h e) ∙ fst_nodes s (fsts (drop (i + 1) ss))

-- an `if`
nodes_if : (s : FlatStmt) (e : FlatExpr) (a b : List FlatStmt) → s ≡ T.If e a b → fs_nodes (fst s f.end) ≡ 1 + fx_nodes (fx e) + fs_nodes (fsts a) + fs_nodes (fsts b) + 0
nodes_if s e a b h = ap (λ x. fs_nodes (fst x f.end)) h ∙ ap fs_nodes (fst_if e a b f.end)

pub first_less : (s : FlatStmt) (e : FlatExpr) (a b ss : List FlatStmt) → s ≡ T.If e a b → ss ≡ a → 2 * fs_nodes (fsts ss) + 1 < 2 * fs_nodes (fst s f.end)
first_less s e a b ss h q =
    let n = nodes_if s e a b h in
    let k : fs_nodes (fsts ss) ≡ fs_nodes (fsts a) = ap (λ l. fs_nodes (fsts l)) q in
    omega (arith, n, k)

pub other_less : (s : FlatStmt) (e : FlatExpr) (a b ss : List FlatStmt) → s ≡ T.If e a b → ss ≡ b → 2 * fs_nodes (fsts ss) + 1 < 2 * fs_nodes (fst s f.end)
other_less s e a b ss h q =
    let n = nodes_if s e a b h in
    let k : fs_nodes (fsts ss) ≡ fs_nodes (fsts b) = ap (λ l. fs_nodes (fsts l)) q in
    omega (arith, n, k)

pub if_wider : (s : FlatStmt) (e : FlatExpr) (a b sa sb : List FlatStmt) (w x y z : Option (ℕ × ℕ)) → s ≡ T.If e a b → x ≡ wider_fx w (fx e) → sa ≡ a → y ≡ wider_fs x (fsts sa) → sb ≡ b → z ≡ wider_fs y (fsts sb) → (rest : Fs) → wider_fs w (fst s rest) ≡ wider_fs z rest
if_wider s e a b sa sb w x y z h hx ha hy hb hz rest =
    let y_is : y ≡ wider_fs (wider_fx w (fx e)) (fsts a) = hy ∙ ap (λ l. wider_fs x (fsts l)) ha ∙ ap (λ o. wider_fs o (fsts a)) hx in
    let z_is : z ≡ wider_fs (wider_fs (wider_fx w (fx e)) (fsts a)) (fsts b) = hz ∙ ap (λ l. wider_fs y (fsts l)) hb ∙ ap (λ o. wider_fs o (fsts b)) y_is in
    ap (λ u. wider_fs w (fst u rest)) h ∙ ap (wider_fs w) (fst_if e a b rest) ∙ ap (λ o. wider_fs o rest) (sym z_is)

-- what is found of end and next
pub found : (o : Option (ℕ × ℕ)) (x : Option (ℕ × ℕ)) (e n es ns : Fs) → x ≡ wider_fs None e → o ≡ wider_fs x n → e ≡ es → n ≡ ns → Spans (fs_uses es ++ fs_uses ns) o
found o x e n es ns hx ho he hn =
    let one : x ≡ wider_all None (fs_uses es) = hx ∙ ap (wider_fs None) he ∙ fs_all None es in
    let two : o ≡ wider_all None (fs_uses es ++ fs_uses ns) = then_all None x (fs_uses es) (fs_uses ns) one o (ho ∙ ap (wider_fs x) hn ∙ fs_all x ns) in
    subst (Spans (fs_uses es ++ fs_uses ns)) (sym two) (spans (fs_uses es ++ fs_uses ns))
