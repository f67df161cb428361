-- Names that come in scope and go out of it.
use Rattle.std.proofs.Common.{◌≡◌, ℕ, ◌+◌, ◌-◌, ◌<◌, List, [], ◌∷◌, ◌++◌, length, get_or, take, drop, map, reverse, refl, sym, ap, ◌∙◌, length-drop}
use Rattle.std.proofs.lemmas.List.{reverse-append, length-reverse, length-map, take_more, map-append, take-append-drop}
use Rattle.iter_unroll.specs.declared.scope.Entry.{Entry}
use Rattle.iter_unroll.specs.unrolling.Views.{entry_of, env_of}

pub env_push : (es : List Entry) (e : Entry) → env_of (es ++ e ∷ []) ≡ entry_of e ∷ env_of es
env_push es e = ap (map entry_of) (reverse-append es (e ∷ []))

drop_over : {A : Type 0} (xs ys : List A) → drop (length xs) (xs ++ ys) ≡ ys
drop_over [] ys = refl
drop_over (x ∷ xs) ys = drop_over xs ys

-- the oldest names are the last
pub env_cut : (es : List Entry) (n : ℕ) → env_of (take n es) ≡ drop (length es - n) (env_of es)
env_cut es n =
    let older = env_of (take n es) in
    let newer = env_of (drop n es) in
    let all : env_of es ≡ newer ++ older =
    ap env_of (sym (take-append-drop n es)) ∙ ap (map entry_of) (reverse-append (take n es) (drop n es)) ∙ map-append entry_of (reverse (drop n es)) (reverse (take n es)) in
    let len : length es - n ≡ length newer = sym (length-map (reverse (drop n es)) entry_of ∙ length-reverse (drop n es) ∙ length-drop n es) in
    sym (ap (λ l. drop (length es - n) l) all ∙ ap (λ k. drop k (newer ++ older)) len ∙ drop_over newer older)

-- the name at a place is the newest of those up to it
pub env_at : (es : List Entry) (i : ℕ) (e : Entry) → i < length es → e ≡ get_or es i e → env_of (take (i + 1) es) ≡ entry_of e ∷ env_of (take i es)
env_at es i e lt h = ap env_of (take_more es i e lt) ∙ ap (λ x. env_of (take i es ++ x ∷ [])) (sym h) ∙ env_push (take i es) e
