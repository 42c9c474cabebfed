-- A part of a list: what is left when elements are left out, in any order.
use Rattle.std.specs.Prelude.{List, [], ◌∷◌}

pub data Part {A : Type 0} : List A → List A → Type 0 where
  empty : Part [] []
  skip : {x : A} {l m : List A} → Part l m → Part l (x ∷ m)
  keep : {x : A} {l m : List A} → Part l m → Part (x ∷ l) (x ∷ m)
  swap : {x y : A} {l : List A} → Part (x ∷ y ∷ l) (y ∷ x ∷ l)
  both : {l m n : List A} → Part l m → Part m n → Part l n
