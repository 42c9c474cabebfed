-- A recorded list of calls: each a header line in the columns of a release order, then the bytes that the call is given.
use Rattle.std.specs.Prelude.{ℕ, zero, suc, ◌+◌, cond, List, [], ◌∷◌, length, get_or, take, drop, leb, eqb}
use Rattle.std.proofs.Math.Option.{Option, none, some}
use Rattle.model.specs.Words.{and_then}
use Rattle.model.specs.Total.{total}
use Rattle.model.specs.Columns.{field_at}
use Rattle.model.specs.Orders.{Kind, kind_of_number}
use Rattle.model.specs.Reference.{Call}

-- Bytes of a header line, with its LF.
abbrev pub header_bytes : ℕ
header_bytes = 9

-- A header: the call, and the number of bytes that it is given.
pub record Header : Type 0 where
  pub kind : Kind
  pub size : ℕ

-- Call in 1-2, number of bytes in 3-8, LF; none where it is malformed or names another call.
unfoldable pub header : List ℕ → Option Header
header bytes =
    and_then (and_then (field_at 1 2 bytes) kind_of_number) λ kind.
    and_then (field_at 3 8 bytes) λ size.
    cond (eqb (get_or bytes 8 0) 10) (some (record { kind = kind; size = size })) none

-- The first call; none where its header is malformed or has too few bytes after it.
unfoldable pub first_call : List ℕ → Option Call
first_call bytes =
    and_then (header bytes) λ h.
    cond (leb (header_bytes + h.size) (length bytes)) (some (record { kind = h.kind; bytes = take h.size (drop header_bytes bytes) })) none

-- How many bytes the calls take in the list.
unfoldable pub bytes_of : List Call → ℕ
bytes_of calls = total (λ c. header_bytes + length c.bytes) calls

-- The calls from one that may be there.
abbrev pub listed : Option Call → (more : Call → List Call) → List Call
listed none more = []
listed (some c) more = c ∷ more c

-- The first calls of a list, at most so many: up to the first that isn't whole.
unfoldable pub calls_in : (most : ℕ) → List ℕ → List Call
calls_in zero bytes = []
calls_in (suc n) bytes = listed (first_call bytes) λ c. calls_in n (drop (header_bytes + length c.bytes) bytes)
