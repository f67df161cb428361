-- The printed tokens of a program are that program again, places aside.
use Rattle.std.proofs.Common.{◌≡◌, ℕ, nat_lt, Bool, true, false, cond, List, [], ◌∷◌, map, flat_map, refl, ap, ◌∙◌, arith}
use Rattle.iter_syntax.specs.Names.{Token, RecordDecl, Iter, Program}
use Rattle.iter_syntax.specs.Program.{IsProgram}
use Rattle.iter_syntax.specs.Tree.{block}
use Rattle.iter_syntax.specs.Grammar.{many}
use Rattle.iter_syntax.specs.Productions as P
use Rattle.iter_syntax.specs.Productions.{Decl, a_record, an_iter, records_of, iters_of}
use Rattle.iter_syntax.specs.Printed.{decl_kinds, put_record, iters_alone, in_order, program_kinds}
use Rattle.iter_syntax.specs.Bare.{bare_record, bare_iter, SameProgram}
use Rattle.iter_syntax.proofs.TokenKinds.{kinds}
use Rattle.iter_syntax.proofs.ReadsBack.Forms.{Back, value_back, either_left, either_right, nil_back, cons_back, Deep, deep_both, deep_two}
use Rattle.iter_syntax.proofs.ReadsBack.Block.{block_back}
use Rattle.iter_syntax.proofs.ReadsBack.Decl.{record_back, iter_back}

-- ---- records and iterators in order

records_alone : (is : List Iter) → records_of (iters_alone is) ≡ []
records_alone [] = refl
records_alone (i ∷ is) = records_alone is

iters_all : (is : List Iter) → iters_of (iters_alone is) ≡ is
iters_all [] = refl
iters_all (i ∷ is) = ap (λ l. i ∷ l) (iters_all is)

records_put : (others : List Iter → List Decl) (r : RecordDecl) (rs : List RecordDecl) → ((is : List Iter) → records_of (others is) ≡ rs) → (is : List Iter) → records_of (put_record others r is) ≡ r ∷ rs
records_put others r rs h [] = ap (λ l. r ∷ l) (h [])
records_put others r rs h (i ∷ is) = by_test (nat_lt (i.place).0 (r.place).0) (records_put others r rs h is)
  where
    by_test : (b : Bool) → records_of (put_record others r is) ≡ r ∷ rs → records_of (cond b (an_iter i ∷ put_record others r is) (a_record r ∷ others (i ∷ is))) ≡ r ∷ rs
    by_test true e = e
    by_test false e = ap (λ l. r ∷ l) (h (i ∷ is))

iters_put : (others : List Iter → List Decl) (r : RecordDecl) → ((is : List Iter) → iters_of (others is) ≡ is) → (is : List Iter) → iters_of (put_record others r is) ≡ is
iters_put others r h [] = h []
iters_put others r h (i ∷ is) = by_test (nat_lt (i.place).0 (r.place).0) (iters_put others r h is)
  where
    by_test : (b : Bool) → iters_of (put_record others r is) ≡ is → iters_of (cond b (an_iter i ∷ put_record others r is) (a_record r ∷ others (i ∷ is))) ≡ i ∷ is
    by_test true e = ap (λ l. i ∷ l) e
    by_test false e = h (i ∷ is)

records_kept : (rs : List RecordDecl) (is : List Iter) → records_of (in_order rs is) ≡ rs
records_kept [] is = records_alone is
records_kept (r ∷ rs) is = records_put (in_order rs) r rs (records_kept rs) is

iters_kept : (rs : List RecordDecl) (is : List Iter) → iters_of (in_order rs is) ≡ is
iters_kept [] is = iters_all is
iters_kept (r ∷ rs) is = iters_put (in_order rs) r (iters_kept rs) is

-- ---- declarations

-- the same records and the same iterators, places aside
record SameDecls (ds ys : List Decl) : Type 0 where
  pub records : map bare_record (records_of ys) ≡ map bare_record (records_of ds)
  pub iters : map bare_iter (iters_of ys) ≡ map bare_iter (iters_of ds)

-- put before the same, the declaration makes the same
abbrev SameDecl : Decl → Decl → Type 0
SameDecl d y = (ds ys : List Decl) → SameDecls ds ys → SameDecls (d ∷ ds) (y ∷ ys)

abbrev DeclAt : Decl → ℕ → Type 0
DeclAt x d = Back (P.decl_over (P.block d)).grammar (decl_kinds x) (SameDecl x)

abbrev DeclsAt : List Decl → ℕ → Type 0
DeclsAt ds d = Back (many (P.decl_over (P.block d)).grammar) (flat_map decl_kinds ds) (SameDecls ds)

same_record : (r y : RecordDecl) → bare_record y ≡ bare_record r → SameDecl (a_record r) (a_record y)
same_record r y e ds ys h = let p = h.records in record { records = (cc); iters = h.iters }

same_iter : (i y : Iter) → bare_iter y ≡ bare_iter i → SameDecl (an_iter i) (an_iter y)
same_iter i y e ds ys h = let p = h.iters in record { records = h.records; iters = (cc) }

decl_at : (x : Decl) → Deep (DeclAt x)
decl_at (a_record r) = (0, λ d le. either_left (value_back a_record (λ y e. same_record r y e) (record_back r)))
decl_at (an_iter i) =
    deep_both (λ d k g. either_right (value_back an_iter (λ y e. same_iter i y e) (iter_back (P.block d) i k.0 k.1 g)))
    (deep_two (block_back (block i.init_part)) (block_back (block i.end_part))) (block_back (block i.next_part))

decls_at : (ds : List Decl) → Deep (DeclsAt ds)
decls_at [] = (0, λ d le. nil_back (record { records = refl; iters = refl }))
decls_at (x ∷ ds) = deep_both (λ d h g. cons_back (λ y ys q r. q ds ys r) h g) (decl_at x) (decls_at ds)

-- ---- programs

pub program_back : (p : Program) (us : List Token) → kinds us ≡ program_kinds p → (q : Program) × IsProgram us q × SameProgram q p
program_back p us h =
    let ds = in_order p.records p.iters in
    let b = decls_at ds in
    let y = (b.1 b.0 (omega arith)).back us h in (
      P.to_program y.0,
      (b.0, (y.0, y.1, refl)),
      record {
        records = y.2.records ∙ ap (map bare_record) (records_kept p.records p.iters);
        iters = y.2.iters ∙ ap (map bare_iter) (iters_kept p.records p.iters);
      },
    )
