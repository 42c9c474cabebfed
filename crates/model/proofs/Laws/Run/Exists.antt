-- Runs exist: for any grain, any best-effort frames that links may be offered, any schedule of what the sources add, and any way to put in order what reaches a queue, there is a run.
-- An instant reads all earlier ones, so the history grows instant by instant, and keeps what it has. Assumes nothing.
use Prim.Native.Nat.{ℕ, zero, suc, ◌*◌, ◌≤◌}
use Rattle.std.specs.Prelude.{◌≡◌, Bool, length}
use Rattle.std.proofs.Math.Path.{refl, ap}
use Rattle.std.proofs.Common.{◌∙◌}
use Rattle.std.proofs.Math.Bool.{true, false}
use mathlib.Core.List.{List, ◌++◌, map, Permᴰ}
use native.Mathlib.Omega.{arith}
use Rattle.std.proofs.Math.Dec.{leb}
use borrow.Author.Tests.{leb-true, leb-false, lt-leb}
use Rattle.model.specs.Words.{All}
use Rattle.model.specs.QueueTable.{Table}
use Rattle.model.specs.Orders.{Hop, Flow}
use Rattle.model.specs.Aggregates.{link_at, speed_of, best_effort_of}
use Rattle.model.specs.Run.{Frame, LinkState, History, next, moving, reaching, enter, interval, empty_link, Sends, Run}
use Rattle.model.proofs.Laws.Run.Cables.{handed-same}

module _ (t : Table) (fs : List Flow) (grain : ℕ) (offered : (x link slot : ℕ) → ℕ) (sent : ℕ → List Frame) (order : (x : ℕ) → Hop → List Frame → List Frame) where
  -- What of the frames that move at instant `x` reaches a queue, in its order.
  unfoldable pub coming : (x : ℕ) → List Frame → (link level : ℕ) → List Frame
  coming x frames n level = let q : Hop = record { link = n; level = level } in order x q (reaching fs q frames)

  -- A link from the arrivals of instant `x` to the next instant.
  abbrev pub served : (x link : ℕ) → LinkState → LinkState
  served x n = interval grain (offered x n) (grain * speed_of (link_at t n))

  -- A link before instant `y` in a history that goes on to the instant after `x`: either `y` is no later than `x`, or it is that instant.
  unfoldable pub goes_on : History → (x y link : ℕ) → (early : Bool) → LinkState
  goes_on before x y n true = before y n
  goes_on before x y n false = served x n (enter (coming x (moving t before x (sent x)) n) (before x n))

  -- The history up to instant `x`.
  unfoldable pub up_to : (x : ℕ) → History
  up_to zero y n = empty_link (link_at t n)
  up_to (suc x) y n = goes_on (up_to x) x y n (leb y x)

  unfoldable pub states : History
  states x n = up_to x x n

  kept : (x y n : ℕ) → y ≤ x → up_to x y n ≡ states y n
  unfolding goes_on up_to states
  kept zero y n u =
      let e : 0 ≡ y = omega arith in
      ap (λ z. up_to z y n) e
  kept (suc x) y n u = go (leb y x) refl (kept x y n)
    where
      go : (b : Bool) → leb y x ≡ b → (y ≤ x → up_to x y n ≡ up_to y y n) → up_to (suc x) y n ≡ up_to y y n
      go true e same = ap (goes_on (up_to x) x y n) e ∙ same (leb-true y x e)
      go false e same =
          let d : suc x ≡ y = omega (arith, leb-false y x e) in
          ap (λ z. up_to z y n) d

  moving-same : (x : ℕ) → moving t (up_to x) x (sent x) ≡ moving t states x (sent x)
  unfolding moving
  moving-same x = ap (λ l. map (next x) l ++ sent x) (handed-same t (up_to x) states x (kept x) (length t))

  pub serves : (x n : ℕ) → states (suc x) n ≡ served x n (enter (coming x (moving t states x (sent x)) n) (states x n))
  unfolding goes_on up_to states
  serves x n =
      ap (goes_on (up_to x) x (suc x) n) (lt-leb (suc x) x (omega arith))
      ∙ ap (λ l. served x n (enter (coming x l n) (up_to x x n))) (moving-same x)

  unfoldable pub run_of : 1 ≤ grain → ((x n slot : ℕ) → offered x n slot ≤ best_effort_of (link_at t n)) → ((x : ℕ) → All (Sends fs x) (sent x))
      → ((x : ℕ) (q : Hop) (l : List Frame) → Permᴰ (order x q l) l) → Run t fs
  unfolding coming up_to states
  run_of divided offers sends permutes =
      record {
        grain = grain;
        divided = divided;
        offered = offered;
        offers = offers;
        sent = sent;
        sends = sends;
        before = states;
        after = λ x n. enter (coming x (moving t states x (sent x)) n) (states x n);
        arrivals = λ x. coming x (moving t states x (sent x));
        any_order = λ x q. permutes x q (reaching fs q (moving t states x (sent x)));
        starts = λ n. refl;
        enters = λ x n. refl;
        serves = serves;
      }

  pub exists : 1 ≤ grain → ((x n slot : ℕ) → offered x n slot ≤ best_effort_of (link_at t n)) → ((x : ℕ) → All (Sends fs x) (sent x))
      → ((x : ℕ) (q : Hop) (l : List Frame) → Permᴰ (order x q l) l)
      → (r : Run t fs) × (r.sent ≡ sent) × (r.grain ≡ grain) × (r.offered ≡ offered)
  unfolding run_of
  exists divided offers sends permutes = (run_of divided offers sends permutes, refl, refl, refl)
