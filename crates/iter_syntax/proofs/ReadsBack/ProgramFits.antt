-- What a program that a text has prints: tokens that are spelled and nowhere too deep.
use Rattle.std.proofs.Common.{◌≡◌, ℕ, nat_lt, Bool, true, false, cond, List, [], ◌∷◌, ◌++◌, Some, None, flat_map, refl, ap, ap₂, ◌∙◌, subst, sym, arith}
use Rattle.iter_syntax.specs.Names.{Token, RecordDecl, Iter, Program}
use Rattle.iter_syntax.specs.Grammar.{row}
use Rattle.iter_syntax.specs.Productions as P
use Rattle.iter_syntax.specs.Deep.{deep_place}
use Rattle.iter_syntax.specs.Tokens.{AreTokens}
use Rattle.iter_syntax.specs.Parsed.{IsProgramOf}
use Rattle.iter_syntax.specs.Printed.{Kinds, decl_kinds, put_record, iters_alone, in_order, program_kinds}
use Rattle.iter_syntax.proofs.TokenKinds.{kinds, AllSpelled, kinds-append, spelled-append, spelled-front, spelled-back}
use Rattle.iter_syntax.proofs.Trims.Scan.{scan, scan_join, scan_split, shallow, not_deep}
use Rattle.iter_syntax.proofs.Trims.Decl.{decl_trims}
use Rattle.iter_syntax.proofs.ReadsBack.Text.{tokens_spelled}

pub record Fits (ks : Kinds) : Type 0 where
  pub spelled : AllSpelled ks
  pub shallow : (us : List Token) → kinds us ≡ ks → deep_place us ≡ None

-- spelled tokens that are nowhere too deep, behind which no bracket is open and no stretch begun
abbrev Fine : Kinds → Type 0
Fine ks = AllSpelled ks × (scan 0 0 ks ≡ Some (0, 0))

abbrev AllFine : List P.Decl → Type 0
AllFine [] = Unit {0}
AllFine (x ∷ ds) = Fine (decl_kinds x) × AllFine ds

abbrev FineRecords : List RecordDecl → Type 0
FineRecords [] = Unit {0}
FineRecords (r ∷ rs) = Fine (decl_kinds (P.a_record r)) × FineRecords rs

abbrev FineIters : List Iter → Type 0
FineIters [] = Unit {0}
FineIters (i ∷ is) = Fine (decl_kinds (P.an_iter i)) × FineIters is

-- ---- the declarations that tokens are

-- behind the tokens of a declaration no bracket is open and no stretch begun
decl_ends : (d : ℕ) (u : List Token) (x : P.Decl) → (P.decl_over (P.block d)).grammar.whole u x → (s : ℕ × ℕ) → scan 0 0 (kinds u) ≡ Some s → s ≡ (0, 0)
decl_ends d u x w s e =
    let t = decl_trims d u x w in
    let p : s.0 ≡ 0 = t.closed.same_depth 0 0 s e in
    let q : s.1 ≡ 0 = t.ended 0 0 s e in
    ap₂ (λ x y. (x, y)) p q

decl_fine : (d : ℕ) (u : List Token) (x : P.Decl) → (P.decl_over (P.block d)).grammar.whole u x → AllSpelled (kinds u) → scan 0 0 (kinds u) ≡ Some (0, 0) → Fine (decl_kinds x)
decl_fine d u x w h e =
    let t = decl_trims d u x w in
    let q = t.trims.no_deeper 0 0 (0, 0) e in
    let none : q.0 ≡ 0 = omega (arith, q.2) in
    (t.trims.spelled h, q.1 ∙ ap (λ z. Some (0, z)) none)

row_fine : (d : ℕ) (ds : List P.Decl) (ts : List Token) (r : ℕ × ℕ) → row (P.decl_over (P.block d)).grammar ds ts → AllSpelled (kinds ts) → scan 0 0 (kinds ts) ≡ Some r → AllFine ds
row_fine d [] ts r w h e = tt
row_fine d (x ∷ ds) ts r w h e =
    let both : kinds ts ≡ kinds w.0 ++ kinds w.1 = ap kinds w.2 ∙ kinds-append w.0 w.1 in
    let all = subst AllSpelled both h in
    let p = scan_split (kinds w.0) (kinds w.1) 0 0 r (subst (λ z. scan 0 0 z ≡ Some r) both e) in
    let ends = decl_ends d w.0 x w.3 p.0 p.1 in (
      decl_fine d w.0 x w.3 (spelled-front (kinds w.0) (kinds w.1) all) (p.1 ∙ ap (λ z. Some z) ends),
      row_fine d ds w.1 r w.4 (spelled-back (kinds w.0) (kinds w.1) all) (subst (λ z. scan z.0 z.1 (kinds w.1) ≡ Some r) ends p.2),
    )

-- ---- the same declarations in another order

records_fine : (ds : List P.Decl) → AllFine ds → FineRecords (P.records_of ds)
records_fine [] h = tt
records_fine (P.a_record r ∷ ds) h = (h.0, records_fine ds h.1)
records_fine (P.an_iter i ∷ ds) h = records_fine ds h.1

iters_fine : (ds : List P.Decl) → AllFine ds → FineIters (P.iters_of ds)
iters_fine [] h = tt
iters_fine (P.a_record r ∷ ds) h = iters_fine ds h.1
iters_fine (P.an_iter i ∷ ds) h = (h.0, iters_fine ds h.1)

alone_fine : (is : List Iter) → FineIters is → AllFine (iters_alone is)
alone_fine [] h = tt
alone_fine (i ∷ is) h = (h.0, alone_fine is h.1)

one_fine : (b : Bool) (xs ys : List P.Decl) → AllFine xs → AllFine ys → AllFine (cond b xs ys)
one_fine true xs ys h g = h
one_fine false xs ys h g = g

put_fine : (others : List Iter → List P.Decl) (r : RecordDecl) (is : List Iter) → ((js : List Iter) → FineIters js → AllFine (others js)) → Fine (decl_kinds (P.a_record r)) → FineIters is → AllFine (put_record others r is)
put_fine others r [] f h g = (h, f [] tt)
put_fine others r (i ∷ is) f h g =
    one_fine (nat_lt (i.place).0 (r.place).0) (P.an_iter i ∷ put_record others r is) (P.a_record r ∷ others (i ∷ is)) (g.0, put_fine others r is f h g.1) (h, f (i ∷ is) g)

order_fine : (rs : List RecordDecl) (is : List Iter) → FineRecords rs → FineIters is → AllFine (in_order rs is)
order_fine [] is h g = alone_fine is g
order_fine (r ∷ rs) is h g = put_fine (in_order rs) r is (λ js k. order_fine rs js h.1 k) h.0 g

-- ---- the printed program

flat_fine : (ds : List P.Decl) → AllFine ds → Fine (flat_map decl_kinds ds)
flat_fine [] h = (tt, refl)
flat_fine (x ∷ ds) h =
    let g = flat_fine ds h.1 in
    (spelled-append (decl_kinds x) (flat_map decl_kinds ds) h.0.0 g.0, scan_join (decl_kinds x) (flat_map decl_kinds ds) 0 0 (0, 0) (0, 0) h.0.1 g.1)

fine_fits : (ks : Kinds) → Fine ks → Fits ks
fine_fits ks h = record {
  spelled = h.0;
  shallow = λ us e. not_deep us 0 0 (0, 0) (ap (scan 0 0) e ∙ h.1);
}

-- a program of declarations whose tokens a text has
decls_fits : (text : List ℕ) (ts : List Token) (d : ℕ) (ds : List P.Decl) → AreTokens text ts → deep_place ts ≡ None → row (P.decl_over (P.block d)).grammar ds ts → Fits (program_kinds (P.to_program ds))
decls_fits text ts d ds h g w =
    let s = shallow ts 0 0 g in
    let fine = row_fine d ds ts s.0 w (tokens_spelled text ts h) s.1 in
    let order = order_fine (P.records_of ds) (P.iters_of ds) (records_fine ds fine) (iters_fine ds fine) in
    fine_fits (program_kinds (P.to_program ds)) (flat_fine (in_order (P.records_of ds) (P.iters_of ds)) order)

pub program_fits : (text : List ℕ) (p : Program) → IsProgramOf text p → Fits (program_kinds p)
program_fits text p h =
    let w = h.3 in
    subst (λ q. Fits (program_kinds q)) (sym w.1.2) (decls_fits text h.0 w.0 w.1.0 h.1 h.2 w.1.1)
