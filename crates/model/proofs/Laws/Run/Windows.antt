-- Laws of sums over windows: of instants, of links, of levels. By induction on the window. Assumes nothing.
use Rattle.std.specs.Prelude.{ℕ, zero, suc, ◌+◌, ◌-◌, ◌≤◌, ◌<◌, ◌≡◌, refl, Bool, true, false, List, ltb, eqb}
use Rattle.std.proofs.Common.{sym, ap, arith, add-zero, add-suc, ltb-true, ltb-false, eqb-true}
use Rattle.std.proofs.Math.Path.{fun_ext}
use Rattle.std.proofs.lemmas.Bool.{eqb-false}
use Rattle.model.specs.Total.{total}
use Rattle.model.proofs.Laws.Total.{total-add, total-zeros}
use Rattle.model.specs.Run.{window}

pub window-mono : (f g : ℕ → ℕ) (a n : ℕ) → ((x : ℕ) → a ≤ x → x < a + n → f x ≤ g x) → window f a n ≤ window g a n
unfolding window
window-mono f g a zero h = omega arith
window-mono f g a (suc n) h = omega (arith, window-mono f g a n (λ x l u. h x l (omega arith)), h (a + n) (omega arith) (omega arith))

pub window-add : (f g : ℕ → ℕ) (a n : ℕ) → window (λ x. f x + g x) a n ≡ window f a n + window g a n
unfolding window
window-add f g a zero = refl
window-add f g a (suc n) = omega (arith, window-add f g a n)

pub window-zero : (f : ℕ → ℕ) (a n : ℕ) → ((x : ℕ) → a ≤ x → x < a + n → f x ≡ 0) → window f a n ≡ 0
unfolding window
window-zero f a zero h = refl
window-zero f a (suc n) h = omega (arith, window-zero f a n (λ x l u. h x l (omega arith)), h (a + n) (omega arith) (omega arith))

pub window-last : (f : ℕ → ℕ) (a n : ℕ) → window f a (suc n) ≡ window f a n + f (a + n)
unfolding window
window-last f a n = refl

pub window-front : (f : ℕ → ℕ) (a n : ℕ) → window f a (suc n) ≡ f a + window f (suc a) n
unfolding window
window-front f a zero = omega (arith, ap f (add-zero a))
window-front f a (suc n) =
    let e : f (a + suc n) ≡ f (suc a + n) = ap f (omega arith) in
    omega (arith, window-front f a n)

pub window-join : (f : ℕ → ℕ) (a m n : ℕ) → window f a (m + n) ≡ window f a m + window f (a + m) n
unfolding window
window-join f a m zero = omega (arith, ap (window f a) (add-zero m))
window-join f a m (suc n) =
    let e : f (a + (m + n)) ≡ f (a + m + n) = ap f (omega arith) in
    let s : window f a (m + suc n) ≡ window f a (suc (m + n)) = ap (window f a) (add-suc m n) in
    omega (arith, window-join f a m n)

pub window-ext : (f g : ℕ → ℕ) (a n : ℕ) → ((x : ℕ) → f x ≡ g x) → window f a n ≡ window g a n
window-ext f g a n h = ap (λ k. window k a n) (fun_ext h)

pub window-longer : (f : ℕ → ℕ) (a m n : ℕ) → m ≤ n → window f a m ≤ window f a n
window-longer f a m n h =
    let e : m + (n - m) ≡ n = omega arith in
    omega (arith, window-join f a m (n - m), ap (window f a) e)

-- Past `p` numbers there is nothing.
pub window-within : (f : ℕ → ℕ) (a p n : ℕ) → ((x : ℕ) → a + p ≤ x → f x ≡ 0) → window f a n ≤ window f a p
unfolding window
window-within f a p zero h = omega arith
window-within f a p (suc n) h = go (ltb n p) refl (window-within f a p n h)
  where
    go : (b : Bool) → ltb n p ≡ b → window f a n ≤ window f a p → window f a n + f (a + n) ≤ window f a p
    go true e ih = window-longer f a (suc n) p (ltb-true n p e)
    go false e ih = omega (arith, h (a + n) (omega (arith, ltb-false n p e)))

-- One number counts, and once.
pub window-at : (f : ℕ → ℕ) (p a n : ℕ) → ((x : ℕ) → (x ≡ p → ⊥) → f x ≡ 0) → window f a n ≤ f p
unfolding window
window-at f p a zero h = omega arith
window-at f p a (suc n) h = go (eqb (a + n) p) refl (window-at f p a n h)
  where
    go : (b : Bool) → eqb (a + n) p ≡ b → window f a n ≤ f p → window f a n + f (a + n) ≤ f p
    go true e ih =
        omega (arith, window-zero f a n (λ x l u. h x (λ k. omega (arith, k, eqb-true (a + n) p e))), ap f (eqb-true (a + n) p e))
    go false e ih = omega (arith, h (a + n) (eqb-false (a + n) p e))

-- A number of the window counts in it.
pub window-has : (f : ℕ → ℕ) (p a n : ℕ) → a ≤ p → p < a + n → f p ≤ window f a n
window-has f p a n l u =
    let e : a + (p - a) ≡ p = omega arith in
    omega (arith, window-longer f a (suc (p - a)) n (omega arith), window-last f a (p - a), ap f e)

-- Sums change places.
pub window-total : {A : Type 0} (c : ℕ → A → ℕ) (l : List A) (a n : ℕ) → window (λ k. total (c k) l) a n ≡ total (λ x. window (λ k. c k x) a n) l
unfolding window
window-total c l a zero = sym (total-zeros l)
window-total c l a (suc n) = omega (arith, window-total c l a n, total-add (λ x. window (λ k. c k x) a n) (c (a + n)) l)
