-- Where brackets or statements grow past the bounds that keep the parser's recursion small.
use Rattle.std.specs.Prelude.{ℕ, ◌+◌, ◌-◌, Bool, true, false, ◌||◌, nat_lt, cond, List, [], ◌∷◌, Option, Some, None}
use Rattle.iter_syntax.specs.declared.token.Symbol.TheVariants as S
use Rattle.iter_syntax.specs.Names.{TokenKind, Token}
use Rattle.iter_syntax.specs.declared.token.TokenKind.TheVariants as T

-- how many brackets of any kind are open after a token
abbrev pub depth_after : ℕ → TokenKind → ℕ
depth_after n (T.Symbol S.OpenRound) = n + 1
depth_after n (T.Symbol S.OpenSquare) = n + 1
depth_after n (T.Symbol S.OpenBrace) = n + 1
depth_after n (T.Symbol S.CloseRound) = n - 1
depth_after n (T.Symbol S.CloseSquare) = n - 1
depth_after n (T.Symbol S.CloseBrace) = n - 1
depth_after n _ = n

-- `;`, `{` and `}` end a stretch of tokens
abbrev pub ends_stretch : TokenKind → Bool
ends_stretch (T.Symbol S.Semicolon) = true
ends_stretch (T.Symbol S.OpenBrace) = true
ends_stretch (T.Symbol S.CloseBrace) = true
ends_stretch _ = false

-- the first place that is too deep, after `n` open brackets and `m` tokens of the stretch
abbrev pub deep_from : ℕ → ℕ → List Token → Option ℕ
deep_from n m [] = None
deep_from n m (t ∷ ts) =
    cond (nat_lt 32 (depth_after n t.kind) || nat_lt 256 (m + 1))
    (Some (t.place).0)
    (deep_from (depth_after n t.kind) (cond (ends_stretch t.kind) 0 (m + 1)) ts)

-- the place of the first token after which more than 32 brackets are open, or which is the 257th since the
-- last `;`, `{` or `}` or the start
abbrev pub deep_place : List Token → Option ℕ
deep_place ts = deep_from 0 0 ts
