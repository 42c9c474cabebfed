-- The mission's second line of every order on a consistent state, and its first: the answer is one that document 01 lists.
-- By whether the code is 0; the causes are listed one by one where they are found. Assumes nothing.
use Rattle.std.specs.Prelude.{ℕ, suc, ◌≤◌, ◌≡◌, Bool, true, false, ◌↔◌, length, eqb}
use Rattle.std.proofs.Math.Path.{refl}
use Rattle.std.proofs.Common.{subst, arith, eqb-true}
use mathlib.Core.List.{Memᴰ}
use Rattle.std.proofs.lemmas.Bool.{eqb-false}
use Rattle.model.specs.Words.{All}
use Rattle.model.specs.Orders as orders
use Rattle.model.specs.Orders.{Change, Order}
use Rattle.model.specs.Reference.{State, Answer, fill, perform, apply}
use Rattle.model.specs.Codes as codes
use Rattle.model.specs.Codes.{cause_codes, order_codes, Names, Listed, because}
use Rattle.model.specs.Outcomes.{Refused, Done, admission, release, change, Changeable, Decided}
use Rattle.model.proofs.Laws.All.{member-all, append-all}
use Rattle.model.proofs.Laws.Order.{Readable}
use Rattle.model.proofs.Laws.Finding.{Caused}
use Rattle.model.proofs.Laws.Reference.{refused, done, released-exactly, zero-exactly, named-coded, order-named}
use Rattle.model.proofs.Laws.Reached.{StateRules, changeable}
use Rattle.model.proofs.Laws.Admissible.{admissible}

-- Its code stands in the list.
pub listed-code : (s : State) (o : Order) (a : Answer) → Listed s o a → Memᴰ a.code order_codes
listed-code s o a (codes.done e low high e₁ e₂) = Memᴰ.head e
listed-code s o a (because e n) =
    Memᴰ.tail (named-coded s o (λ code. Memᴰ code cause_codes) (member-all _ cause_codes (λ code m. m)) _ n)

module _ (s : State) (ok : StateRules s) (o : Order) (kind : ℕ) (r : Readable kind o) where
  change-exactly : (c : Change) → Readable kind (orders.change c) → ((apply s (orders.change c)).answer.code ≡ 0) ↔ Changeable s c
  unfolding perform fill
  change-exactly c read =
      let (passed, zero) = zero-exactly s (orders.change c) kind read refl in
      let (to, from) = changeable s c read.1 ok in
      (λ z. to (passed z), λ m. zero (from m))

  pub decided : Decided s o (apply s o)
  decided =
      record {
        exactly = λ f e. rw e (admissible s f ok (subst (Readable kind) e r).1);
        held = λ n e. rw e (released-exactly s n);
        changed = λ c e. rw e (change-exactly c (subst (Readable kind) e r));
        done = done s o kind r;
        refused = refused s o;
      }

  cause-named : (f : Refused s o (apply s o)) → Names s o f.cause
  cause-named f =
      (append-all (Caused (Names s o)) f.first.earlier _
      (subst (All (Caused (Names s o))) f.first.listed (order-named s o kind r))).1.0

  pub listed : Listed s o (apply s o).answer
  listed = go (eqb (apply s o).answer.code 0) refl
    where
      given : {index : ℕ} → suc index ≤ length s.slots → (apply s o).answer ≡ record { code = 0; slot = suc index; link = 0; level = 0 }
          → Listed s o (apply s o).answer
      given inside e = rw e (codes.done refl (omega arith) (omega (arith, ok.size)) refl refl)

      carried-out : Done s o (apply s o) → Listed s o (apply s o).answer
      carried-out (admission f e a) = given a.inside a.answer
      carried-out (release n e a) = given a.inside a.answer
      carried-out (change c e a) = given a.inside a.answer

      go : (b : Bool) → eqb (apply s o).answer.code 0 ≡ b → Listed s o (apply s o).answer
      go true e = carried-out (done s o kind r (eqb-true _ _ e))
      go false e =
          let f = refused s o (eqb-false _ _ e) in
          rw f.answer (because refl (cause-named f))
