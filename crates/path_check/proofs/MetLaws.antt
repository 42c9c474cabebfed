-- The search for a link met earlier, with a bit of one word for each link met so far: at the first hop, one hop on, at the hop that is
-- found, and past the last. By the laws of a word's bits. Assumes nothing.
use Prim.Native.Nat.{ℕ, ◌+◌, ◌*◌, ◌%◌, ◌^◌, ◌≤◌, ◌<◌}
use mathlib.Core.Path.{◌≡◌, refl, sym, ap, ◌∙◌}
use mathlib.Core.List.{List, [], map}
use mathlib.Core.Option.{none}
use native.Mathlib.Nat.{zero-div}
use native.Mathlib.Decide.{ℕ_discrete}
use native.Mathlib.Omega.{arith}
use borrow.Author.Tests.{eq-eqb, ne_eqb}
use lib.Bits.{bit_or}
use lib.ListN.{length, get_or}
use lib.Dec.{eqb}
use Rattle.model.specs.Words.{All}
use Rattle.model.specs.Sizes.{queues_most}
use Rattle.model.proofs.Laws.All.{all_get_d}
use Rattle.model.proofs.Laws.Path.{search_from}
use Rattle.model.specs.Reference.{at_hop, crosses, met_earlier}
use Rattle.bit_words.specs.View.{bit, word_bits}
use Rattle.bit_words.proofs.BitLaws.{or-own, or-other}
use Rattle.queue_table.specs.View.{link_in, hop_at}
use Rattle.path_check.specs.View.{hop_cause, earlier_than}
use Rattle.path_check.proofs.SearchLaws.{crosses-next, entry-passed, entry_found, none_found}

-- A word has a bit for each link.
pub link-inside : (entries : List ℕ) (i : ℕ) → All (λ e. e < queues_most) entries → i < length entries → link_in (get_or entries i 0) < word_bits
link-inside entries i low h = omega (arith, all_get_d (λ e. e < queues_most) entries i 0 low h)

-- Hop i is next, and the word has a bit for each link that an earlier hop is on, and no other.
pub record Searched (entries : List ℕ) (i word : ℕ) : Type 0 where
  pub left : at_hop 16 met_earlier [] (map hop_at entries) ≡ search_from 16 met_earlier (map hop_at entries) i
  pub marked : (link : ℕ) → eqb (bit word link) 1 ≡ crosses (link + 1) (earlier_than entries i)

pub searched-first : (entries : List ℕ) → Searched entries 0 0
unfolding crosses
searched-first entries = record { left = refl; marked = λ link. ap (λ (x : ℕ). eqb (x % 2) 1) (zero-div (2 ^ link)) }

module _ {entries : List ℕ} {i word : ℕ} (s : Searched entries i word) where
  abbrev link : ℕ
  link = link_in (get_or entries i 0)

  -- The bit of hop i's link says whether that was met.
  met : met_earlier (earlier_than entries i) (hop_at (get_or entries i 0)) ≡ eqb (bit word link) 1
  unfolding met_earlier hop_at
  met = sym (s.marked link)

  pub searched-found : i < length entries → bit word link ≡ 1 → at_hop 16 met_earlier [] (map hop_at entries) ≡ hop_cause 16 (map hop_at entries) i
  searched-found h e = s.left ∙ entry_found entries 16 met_earlier i h (met ∙ eq-eqb (bit word link) 1 e)

  pub searched-end : length entries ≤ i → at_hop 16 met_earlier [] (map hop_at entries) ≡ none
  searched-end h = s.left ∙ none_found entries 16 met_earlier i h

  -- Its bit is set from then on.
  pub searched-next : All (λ e. e < queues_most) entries → i < length entries → (bit word link ≡ 1 → ⊥)
      → Searched entries (i + 1) (bit_or word ((1 * 2 ^ link) % 2 ^ word_bits))
  searched-next low h new =
      record {
        left = s.left ∙ entry-passed entries 16 met_earlier i h (met ∙ ne_eqb (bit word link) 1 new);
        marked = λ j. go j (ℕ_discrete j link);
      }
    where
      inside : link < word_bits
      inside = link-inside entries i low h

      go : (j : ℕ) → Dec (j ≡ link)
          → eqb (bit (bit_or word ((1 * 2 ^ link) % 2 ^ word_bits)) j) 1 ≡ crosses (j + 1) (earlier_than entries (i + 1))
      go j (yes e) =
          ap (λ (k : ℕ). eqb (bit (bit_or word ((1 * 2 ^ link) % 2 ^ word_bits)) k) 1) e
          ∙ ap (λ (x : ℕ). eqb x 1) (or-own word_bits word link inside)
          ∙ sym (crosses-next entries j i h ∙ simp (eq-eqb link j (sym e)))
      go j (no f) =
          ap (λ (x : ℕ). eqb x 1) (or-other word_bits word link inside j f)
          ∙ s.marked j
          ∙ sym (crosses-next entries j i h ∙ simp (ne_eqb link j (λ e. f (sym e))))
