-- Bytes are headed by one header.
use Rattle.std.proofs.Common.{◌≡◌, ℕ, ◌^◌, ◌<◌, List, [], ◌∷◌, ◌++◌, length, refl, sym, ap, ◌∙◌, arith}
use Rattle.std.specs.Int.{Width, w8, w16, w32, w64, byte_len, to_le_bytes, from_le_bytes}
use Rattle.std.proofs.lemmas.Nat.{from_le_bytes-to_le_bytes_2, from_le_bytes-to_le_bytes_4, from_le_bytes-to_le_bytes_8}
use Rattle.frame_codec.specs.declared.header.Header.{Header}
use Rattle.frame_codec.specs.Layout.{header_bytes, HeaderFits, IsHeaded}

-- two fronts of one length
front_same : (a b x y : List ℕ) → length a ≡ length b → a ++ x ≡ b ++ y → (a ≡ b) × (x ≡ y)
front_same [] [] x y l e = (refl, e)
front_same [] (d ∷ b) x y l e = absurd (omega arith)
front_same (c ∷ a) [] x y l e = absurd (omega arith)
front_same (c ∷ a) (d ∷ b) x y l e =
    let rest = front_same a b x y (omega arith) cc in
    let head : c ≡ d = cc in
    (cc, rest.1)

-- a width, and the numbers that fit it
record IsWide (w : Width) (limit : ℕ) : Type 0 where
  len : (n : ℕ) → length (to_le_bytes w n) ≡ byte_len w
  again : (n : ℕ) → n < limit → from_le_bytes w (to_le_bytes w n) ≡ n

wide8 : IsWide w8 (2 ^ 8)
wide8 = record { len = λ n. refl; again = λ n lt. omega arith }

wide16 : IsWide w16 (2 ^ 16)
wide16 = record { len = λ n. refl; again = λ n lt. from_le_bytes-to_le_bytes_2 n lt }

wide32 : IsWide w32 (2 ^ 32)
wide32 = record { len = λ n. refl; again = λ n lt. from_le_bytes-to_le_bytes_4 n lt }

wide64 : IsWide w64 (2 ^ 64)
wide64 = record { len = λ n. refl; again = λ n lt. from_le_bytes-to_le_bytes_8 n lt }

number_same : (w : Width) (limit : ℕ) → IsWide w limit → (m n : ℕ) (x y : List ℕ) → m < limit → n < limit → to_le_bytes w m ++ x ≡ to_le_bytes w n ++ y → (m ≡ n) × (x ≡ y)
number_same w limit wide m n x y lm ln e =
    let parts = front_same (to_le_bytes w m) (to_le_bytes w n) x y (wide.len m ∙ sym (wide.len n)) e in
    (sym (wide.again m lm) ∙ ap (from_le_bytes w) parts.0 ∙ wide.again n ln, parts.1)

-- headers of the same numbers
pub same_header : (h k : Header) → h.magic ≡ k.magic → h.version ≡ k.version → h.kind ≡ k.kind → h.client ≡ k.client → h.request ≡ k.request → h.leg ≡ k.leg
    → h.program ≡ k.program → h.left ≡ k.left → h.ending ≡ k.ending → h.fault ≡ k.fault → h.cur ≡ k.cur → h.pad_len ≡ k.pad_len → h ≡ k
same_header h k magic version kind client request leg program left ending fault cur pad_len =
    λ i. record { magic = magic i; version = version i; kind = kind i; client = client i; request = request i; leg = leg i; program = program i; left = left i; ending = ending i; fault = fault i; cur = cur i; pad_len = pad_len i }

pub header_unique : (h k : Header) (x y : List ℕ) → HeaderFits h → HeaderFits k → header_bytes h ++ x ≡ header_bytes k ++ y → (h ≡ k) × (x ≡ y)
header_unique h k x y f g e =
    let magic = number_same w16 (2 ^ 16) wide16 h.magic k.magic _ _ f.magic g.magic e in
    let version = number_same w8 (2 ^ 8) wide8 h.version k.version _ _ f.version g.version magic.1 in
    let kind = number_same w8 (2 ^ 8) wide8 h.kind k.kind _ _ f.kind g.kind version.1 in
    let client = number_same w16 (2 ^ 16) wide16 h.client k.client _ _ f.client g.client kind.1 in
    let request = number_same w32 (2 ^ 32) wide32 h.request k.request _ _ f.request g.request client.1 in
    let leg = number_same w32 (2 ^ 32) wide32 h.leg k.leg _ _ f.leg g.leg request.1 in
    let program = number_same w16 (2 ^ 16) wide16 h.program k.program _ _ f.program g.program leg.1 in
    let left = number_same w16 (2 ^ 16) wide16 h.left k.left _ _ f.left g.left program.1 in
    let ending = number_same w8 (2 ^ 8) wide8 h.ending k.ending _ _ f.ending g.ending left.1 in
    let fault = number_same w8 (2 ^ 8) wide8 h.fault k.fault _ _ f.fault g.fault ending.1 in
    let cur = number_same w64 (2 ^ 64) wide64 h.cur k.cur _ _ f.cur g.cur fault.1 in
    let pad_len = number_same w16 (2 ^ 16) wide16 h.pad_len k.pad_len _ _ f.pad_len g.pad_len cur.1 in
    (same_header h k magic.0 version.0 kind.0 client.0 request.0 leg.0 program.0 left.0 ending.0 fault.0 cur.0 pad_len.0, pad_len.1)

pub headed_unique : (bytes : List ℕ) (h k : Header) (x y : List ℕ) → IsHeaded bytes h x → IsHeaded bytes k y → (h ≡ k) × (x ≡ y)
headed_unique bytes h k x y p q = header_unique h k x y p.fits q.fits (sym p.parts ∙ q.parts)
