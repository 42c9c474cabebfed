-- One link over time, one level: since some instant with nothing of the level and the levels above, the link has worked all the time,
-- so what is unsent and what waits is bounded by what has come since. Recursion over instants. Assumes nothing.
use Rattle.std.specs.Prelude.{ℕ, zero, suc, ◌+◌, ◌*◌, ◌≤◌, ◌<◌, ◌≡◌, refl, ◌⊎◌, Bool, true, false, length, leb}
use Rattle.std.proofs.Math.Path.{ap}
use Rattle.std.proofs.Common.{inl, inr, leb-true, leb-false}
use Rattle.std.proofs.Math.Bool.{cond}
use mathlib.Core.List.{List}
use Rattle.std.proofs.Math.Option.{Option, none, some}
use native.Mathlib.Omega.{arith}
use Rattle.std.proofs.Math.Nat.{mul-le-mul_left}
use Rattle.std.proofs.lemmas.Bool.{lt-leb}
use Rattle.model.specs.Words.{All}
use Rattle.model.specs.QueueTable.{Link}
use Rattle.model.specs.Run.{Frame, LinkState, sending_time, interval, append, enter, empty_link, window}
use Rattle.model.proofs.Laws.All.{all-imp}
use Rattle.model.proofs.Laws.Run.OneLink.{Long, waiting, held, empty-held, Each, OnWire, Rising, append-waiting, enter-held, interval-held, held-le}
use Rattle.model.proofs.Laws.Run.EachFrame.{enter-each, each-up, enter-rising, interval-rising, empty-rising}
use Rattle.model.proofs.Laws.Run.Workload.{wire_slots, wire_bytes, whole, unsent, interval-unsent, WireFits, interval-fits, quiet-unsent}
use Rattle.model.proofs.Laws.Run.LevelArrivals.{own, own-whole, bytes, own-adds, whole-adds}

-- A frame of level `n`, which came up to instant `x`.
pub record Sound (largest : ℕ → ℕ) (x n : ℕ) (f : Frame) : Type 0 where
  pub long : 1 ≤ f.length
  pub short : f.length ≤ largest n
  pub came : f.since ≤ x

-- One link of a run, with the best-effort frames that it is offered, of `most` bytes at most, and the frames that reach each level; up to instant `h` its
-- frames are sound.
pub record Served (grain speed most h : ℕ) (largest : ℕ → ℕ) (before after : ℕ → LinkState) (new : (x level : ℕ) → List Frame) : Type 0 where
  pub divided : 1 ≤ grain
  pub offered : (x slot : ℕ) → ℕ
  pub offers : (x slot : ℕ) → offered x slot ≤ most
  pub link : Option Link
  pub starts : before 0 ≡ empty_link link
  pub enters : (x : ℕ) → after x ≡ enter (new x) (before x)
  pub serves : (x : ℕ) → before (suc x) ≡ interval grain (offered x) (grain * speed) (after x)
  pub frames : (x : ℕ) → x ≤ h → Each (Sound largest x) (before x)
  pub news : (x : ℕ) → x ≤ h → (n : ℕ) → All (λ f. Sound largest x n f × (f.since ≡ x)) (new x n)

-- What reaches the levels above level `suc q`, and what reaches that level up to instant `a`.
unfoldable pub above : ((x level : ℕ) → List Frame) → (q x : ℕ) → ℕ
above new q x = window (λ k. bytes (new x k)) 1 q

unfoldable pub up_to : ((x level : ℕ) → List Frame) → (q a x : ℕ) → ℕ
up_to new q a x = cond (leb x a) (bytes (new x (suc q))) 0

-- Since instant `first` the link has worked all the time on `l` before instant `t`: so much is unsent, and so much of the level is there.
-- `blocking` bytes at most were under way when that began, of a level below or best effort.
pub record Busy (new : (x level : ℕ) → List Frame) (grain speed q a blocking t : ℕ) (l : LinkState) : Type 0 where
  pub first : ℕ
  pub count : ℕ
  pub ends : first + count ≡ t
  pub early : first ≤ a
  pub load : unsent grain (suc q) a l + grain * speed * count ≤ sending_time grain (blocking + window (λ x. above new q x + up_to new q a x) first count)
  pub level : held (own (suc q) a) l ≤ window (up_to new q a) first count

-- Or nothing of what came to the level up to `a` is left.
abbrev pub Gone : (q a t : ℕ) → LinkState → Type 0
Gone q a t l = (a < t) × (held (own (suc q) a) l ≡ 0)

module _ {grain speed most h : ℕ} {largest : ℕ → ℕ} {before after : ℕ → LinkState} {new : (x level : ℕ) → List Frame}
    (s : Served grain speed most h largest before after new) where
  came : (x : ℕ) → x ≤ h → (n : ℕ) → All (λ f. f.since ≡ x) (new x n)
  came x u n = all-imp (new x n) (λ f k. k.1) (s.news x u n)

  pub after-each : (x : ℕ) → x ≤ h → Each (Sound largest x) (after x)
  after-each x u =
      rw (s.enters x)
      (enter-each (Sound largest x) (new x) (before x)
      (λ n. all-imp (new x n) (λ f k. k.0) (s.news x u n))
      (s.frames x u).wire
      (s.frames x u).levels)

  pub long : (x : ℕ) → x ≤ h → Each Long (after x)
  long x u = each-up (Sound largest x) Long (λ n f k. k.long) (after x) (after-each x u)

  after-rising : (x : ℕ) → x ≤ h → All Rising (before x).levels → All Rising (after x).levels
  unfolding enter
  after-rising x u r =
      rw (s.enters x)
      (enter-rising x (new x) (came x u) 1 (before x).levels
      (each-up (Sound largest x) (λ n f. f.since ≤ x) (λ n f k. k.came) (before x) (s.frames x u)).levels r)

  rising : (x : ℕ) → x ≤ h → All Rising (before x).levels
  rising zero u = rw s.starts (empty-rising s.link)
  rising (suc x) u = rw (s.serves x) (interval-rising grain (s.offered x) (grain * speed) (after x) (after-rising x (omega arith) (rising x (omega arith))))

  after-fits : (x : ℕ) → WireFits grain most (before x) → WireFits grain most (after x)
  unfolding enter WireFits
  after-fits x f = rw (s.enters x) f

  empty-fits : (k : Option Link) → WireFits grain most (empty_link k)
  unfolding empty_link WireFits wire_slots wire_bytes
  empty-fits none = omega arith
  empty-fits (some k) = omega arith

  fits : (x : ℕ) → x ≤ h → WireFits grain most (before x)
  fits zero u = rw s.starts (empty-fits s.link)
  fits (suc x) u =
      rw (s.serves x)
      (interval-fits grain s.divided (s.offered x) most (s.offers x) (grain * speed) (after x) (long x (omega arith)) (after-fits x (fits x (omega arith))))

  module _ (q a : ℕ) where
    pub after-level : (x : ℕ) → x ≤ h → held (own (suc q) a) (after x) ≤ held (own (suc q) a) (before x) + up_to new q a x
    unfolding up_to
    after-level x u =
        rw (s.enters x) (omega (arith, enter-held (own (suc q) a) (new x) (before x), own-adds q a x (new x) (came x u) (length (before x).levels)))

    pub after-load : (x : ℕ) → x ≤ h → unsent grain (suc q) a (after x) ≤ unsent grain (suc q) a (before x) + sending_time grain (above new q x + up_to new q a x)
    unfolding above up_to unsent enter sending_time
    after-load x u = rw (s.enters x) (omega (arith, mul-le-mul_left grain more))
      where
        qs : List (List Frame)
        qs = (before x).levels

        more : waiting (whole (suc q) a) 1 (append (new x) 1 qs) ≤ waiting (whole (suc q) a) 1 qs + (above new q x + up_to new q a x)
        more = omega (arith, append-waiting (whole (suc q) a) (new x) 1 qs, whole-adds q a x (new x) (came x u) (length qs))

    gone-on : (x : ℕ) → x ≤ h → Gone q a x (before x) → Gone q a (suc x) (before (suc x))
    unfolding up_to
    gone-on x u g = (
      omega (arith, g.0),
      rw (s.serves x)
          (omega (arith, interval-held (own (suc q) a) grain (s.offered x) (grain * speed) (after x), after-level x u, g.1, ap (λ b. cond b (bytes (new x (suc q))) 0) (lt-leb x a g.0))),
    )

    module _ (blocking : ℕ) (blocked : (n : ℕ) → suc q < n → largest n ≤ blocking) (alone : most ≤ blocking) where
      -- With nothing there that counts, a busy time may begin anew.
      quiet : (x : ℕ) → x ≤ h → x ≤ a → held (whole (suc q) a) (before x) ≡ 0 → Busy new grain speed q a blocking x (before x)
      unfolding window sending_time
      quiet x u v z =
          record {
            first = x;
            count = 0;
            ends = omega arith;
            early = v;
            load = omega (arith, quiet-unsent grain (suc q) a most blocking alone (before x) z (fits x u) wire);
            level = omega (arith, held-le (own (suc q) a) (whole (suc q) a) (own-whole (suc q) a) (before x));
          }
        where
          wire : OnWire (λ n f. (1 ≤ f.length) × (f.since ≤ a) × (suc q < n → f.length ≤ blocking)) (before x).wire
          wire =
              (each-up (Sound largest x) (λ n f. (1 ≤ f.length) × (f.since ≤ a) × (suc q < n → f.length ≤ blocking))
              (λ n f k. (k.long, omega (arith, k.came), λ b. omega (arith, k.short, blocked n b)))
              (before x)
              (s.frames x u)).wire

      go_on : (x : ℕ) → suc x ≤ h → Busy new grain speed q a blocking x (before x) →
          Busy new grain speed q a blocking (suc x) (before (suc x)) ⊎ Gone q a (suc x) (before (suc x))
      unfolding window sending_time
      go_on x u b =
          go
          (interval-unsent (suc q) a grain s.divided (s.offered x) (grain * speed) (after x) (long x (omega arith))
          (after-rising x (omega arith) (rising x (omega arith))))
        where
          l : LinkState
          l = interval grain (s.offered x) (grain * speed) (after x)

          e : before (suc x) ≡ l
          e = s.serves x

          late : held (whole (suc q) a) l ≡ 0 → (t : Bool) → leb (suc x) a ≡ t →
              Busy new grain speed q a blocking (suc x) (before (suc x)) ⊎ Gone q a (suc x) (before (suc x))
          late z true t = inl (quiet (suc x) u (leb-true (suc x) a t) (rw e z))
          late z false t =
              inr (leb-false (suc x) a t, rw e (omega (arith, held-le (own (suc q) a) (whole (suc q) a) (own-whole (suc q) a) l)))

          go : (unsent grain (suc q) a l + grain * speed ≡ unsent grain (suc q) a (after x)) ⊎ (held (whole (suc q) a) l ≡ 0) →
              Busy new grain speed q a blocking (suc x) (before (suc x)) ⊎ Gone q a (suc x) (before (suc x))
          go (inr z) = late z (leb (suc x) a) refl
          go (inl w) =
              inl
              (record {
                first = b.first;
                count = suc b.count;
                ends = omega (arith, b.ends);
                early = b.early;
                load = rw e (omega (arith, w, b.load, after-load x (omega arith), ap (λ y. grain * (above new q y + up_to new q a y)) b.ends));
                level = rw e (omega (arith, interval-held (own (suc q) a) grain (s.offered x) (grain * speed) (after x), after-level x (omega arith), b.level, ap (up_to new q a) b.ends));
              })

      pub busy : (x : ℕ) → x ≤ h → Busy new grain speed q a blocking x (before x) ⊎ Gone q a x (before x)
      busy zero u = inl (quiet 0 u (omega arith) (rw s.starts (empty-held (whole (suc q) a) s.link)))
      busy (suc x) u = go (busy x (omega arith))
        where
          go : Busy new grain speed q a blocking x (before x) ⊎ Gone q a x (before x) →
              Busy new grain speed q a blocking (suc x) (before (suc x)) ⊎ Gone q a (suc x) (before (suc x))
          go (inl b) = go_on x u b
          go (inr g) = inr (gone-on x (omega arith) g)
