-- The names before a turn, in which its variable came first.
use Rattle.std.proofs.Common.{◌≡◌, ℕ, zero, suc, ◌-◌, ◌≤◌, ◌∙◌, sym, List, [], ◌∷◌, length, drop, reverse, ap, arith}
use Rattle.std.proofs.lemmas.List.{length-map, length-reverse}
use Rattle.iter_unroll.specs.declared.scope.Meant.{Meant}
use Rattle.iter_unroll.specs.declared.scope.Entry.{Entry}
use Rattle.iter_unroll.specs.unrolling.Views.{env_of, entry_of}

drop_next : {A : Type 0} (k : ℕ) (xs : List A) (y : A) (ys : List A) → drop k xs ≡ y ∷ ys → drop (suc k) xs ≡ ys
drop_next zero [] y ys e = cc
drop_next zero (x ∷ xs) y ys e = cc
drop_next (suc k) [] y ys e = cc
drop_next (suc k) (x ∷ xs) y ys e = drop_next k xs y ys e

-- as many names as the code has
pub env_length : (es : List Entry) → length (env_of es) ≡ length es
env_length es = length-map (reverse es) entry_of ∙ length-reverse es

pub shed_turn : (rowed declared before : List Entry) (e : List ℕ × Meant) (len : ℕ) → len ≡ length before → env_of declared ≡ e ∷ env_of before → length declared ≤ length rowed → drop (length rowed - length declared) (env_of rowed) ≡ env_of declared → drop (length rowed - len) (env_of rowed) ≡ env_of before
shed_turn rowed declared before e len n d h g =
    let m : length declared ≡ suc (length before) = sym (env_length declared) ∙ ap length d ∙ ap suc (env_length before) in
    let k : length rowed - len ≡ suc (length rowed - length declared) = omega (arith, n, m, h) in
    ap (λ z. drop z (env_of rowed)) k ∙ drop_next _ (env_of rowed) e (env_of before) (g ∙ d)
