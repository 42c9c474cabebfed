-- The registry that a call builds anew holds what came of it.
-- Assumes nothing.
use Rattle.std.specs.Prelude.{Result}
use Prim.Native.Nat.{ℕ}
use mathlib.Core.Path.{refl}
use mathlib.Core.List.{List}
use Rattle.model.specs.Columns.{lines}
use Rattle.model.specs.Orders.{Kind, kind_number}
use Rattle.model.specs.Reference.{only_line, call_order, step}
use Rattle.causes.specs.declared.Cause.{Cause}
use Rattle.registry.specs.declared.Registry.{Registry}
use Rattle.registry.specs.View.{Guarded, call_of, Performs}

-- A registry taken apart and built anew around the arrays that a call changed.
pub performs : (before : Registry) (kind : Kind) (bytes : List ℕ) (r : Result ℕ Cause) (bits' store' figures' : List ℕ)
    → Guarded (only_line (kind_number kind) (lines bytes)) before.table before.bits before.store before.figures bits' store' figures' r
    → Performs before (call_of kind bytes)
    (record { answer = r; registry = record { table = before.table; bits = bits'; store = store'; figures = figures' } })
unfolding step call_order
performs before kind bytes r bits' store' figures' g =
    record {
      table = refl;
      answer = λ k. (g.done k).answer;
      next = λ k. (g.done k).next;
      is-consistent = λ k. (g.done k).kept;
      inconsistent = λ spoilt.
          let (answer, rest) = g.inconsistent spoilt in
          (answer, λ i. record { table = before.table; bits = rest.0 i; store = rest.1.0 i; figures = rest.1.1 i });
    }
