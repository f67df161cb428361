-- The text of spelled tokens, each with its separator, has just these tokens.
use Rattle.std.proofs.Common.{◌≡◌, ℕ, ◌+◌, Bool, true, false, cond, List, [], ◌∷◌, ◌++◌, length, refl, ap, arith, length-append}
use Rattle.iter_syntax.specs.Names.{Token}
use Rattle.iter_syntax.specs.Bytes.{is_separator}
use Rattle.iter_syntax.specs.Deep.{ends_stretch}
use Rattle.iter_syntax.specs.Tokens.{IsGap, nothing, separator, Leads, AreTokens}
use Rattle.iter_syntax.specs.Printed.{Kinds, spelling, laid_out}
use Rattle.iter_syntax.specs.Printed as P
use Rattle.iter_syntax.proofs.TokenKinds.{kinds, AllSpelled}
use Rattle.iter_syntax.proofs.ReadsBack.Spelling.{spelling_spells, spelling_ends}

separates : (lf : Bool) → is_separator (cond lf 10 32) ≡ true
separates true = refl
separates false = refl

-- from offset `start` on, behind a gap, stand tokens of these kinds, up to offset `stop`
record Laid (start : ℕ) (gap : List ℕ) (ks : Kinds) (stop : ℕ) : Type 0 where
  tokens : List Token
  leads : Leads start (gap ++ laid_out ks) tokens stop []
  same : kinds tokens ≡ ks

laid : (ks : Kinds) → AllSpelled ks → (start : ℕ) (gap : List ℕ) (stop : ℕ) → ((after : List ℕ) → IsGap gap after) → stop ≡ start + length gap + length (laid_out ks) → Laid start gap ks stop
laid [] h start gap stop g e = record { tokens = []; leads = (gap, refl, g [], omega (arith, e)); same = refl }
laid (k ∷ ks) h start gap stop g e =
    let b = P.separator k in
    let others = laid ks h.1 (start + length gap + length (spelling k)) (b ∷ []) stop
    (λ after. separator b [] after (separates (ends_stretch k)) (nothing after))
    (omega (arith, e, length-append (spelling k) (b ∷ laid_out ks))) in
    record {
      tokens = record { place = record { 0 = start + length gap }; kind = k } ∷ others.tokens;
      leads = (
        gap,
        spelling k ++ b ∷ laid_out ks,
        spelling k,
        b ∷ laid_out ks,
        refl,
        g _,
        refl,
        record { splits = refl; spells = spelling_spells k h.0; ends = spelling_ends k (ends_stretch k) (laid_out ks) },
        others.leads,
      );
      same = ap (λ l. k ∷ l) others.same;
    }

pub text_tokens : (ks : Kinds) → AllSpelled ks → (us : List Token) × AreTokens (laid_out ks) us × (kinds us ≡ ks)
text_tokens ks h =
    let l = laid ks h 0 [] (length (laid_out ks)) nothing (omega arith) in
    (l.tokens, l.leads, l.same)

leads_spelled : (start : ℕ) (text : List ℕ) (ts : List Token) (stop : ℕ) (rest : List ℕ) → Leads start text ts stop rest → AllSpelled (kinds ts)
leads_spelled start text [] stop rest h = tt
leads_spelled start text (t ∷ ts) stop rest h = ((h.2, h.7.spells), leads_spelled (start + length h.0 + length h.2) h.3 ts stop rest h.8)

pub tokens_spelled : (text : List ℕ) (ts : List Token) → AreTokens text ts → AllSpelled (kinds ts)
tokens_spelled text ts h = leads_spelled 0 text ts (length text) [] h
