-- The entries of files that consist of blocks.
use Rattle.std.proofs.Common.{◌≡◌, ◌≢◌, inl, inr, ℕ, ◌*◌, ◌+◌, ◌-◌, ◌%◌, ◌<◌, ◌≤◌, ◌^◌, List, [], ◌∷◌, ◌++◌, length, take, drop, map, Vec, refl, sym, ◌∙◌, ap, subst, arith, length-append, length-drop, append_assoc, if◌then◌else◌, ◌==◌, ◌&&◌, nat_le, true, false}
use Rattle.std.proofs.Math.Seq.{take-append_seam, drop-append_seam}
use Rattle.std.proofs.lemmas.List.{append-nil, map-append, drop-drop}
use Rattle.std.specs.declared.alloc.Global.{Global}
use Rattle.std.proofs.lemmas.Bool.{cases_eq, le-leb, eq-eqb, ne_eqb, and_from, and_parts, leb-true, false≢true}
use Rattle.std.specs.Int.{byte_at}
use Rattle.mq_log.specs.Checksum.{next_sum, sum_from, checksum}
use Rattle.mq_log.specs.Blocks.{body, blocks, AreShort, gate, stored_length, stored_checksum, first_entry, behind, is_block, entries_within, rest_within, entries, rest}
use Rattle.mq_log.specs.Journal.{IsBeforeOrAfter}

pub number_of : (n : ℕ) → n < 4294967296 → ((byte_at 3 n * 256 + byte_at 2 n) * 256 + byte_at 1 n) * 256 + byte_at 0 n ≡ n
number_of n low = omega arith

sum_low : (sum : ℕ) (bytes : List ℕ) → sum < 4294967296 → sum_from sum bytes < 4294967296
sum_low sum [] low = low
sum_low sum (byte ∷ bytes) low = sum_low (next_sum sum byte) bytes (omega arith)

checksum_low : (entry : List ℕ) → checksum entry < 4294967296
checksum_low entry = sum_low ((2166136261 + length entry) % 4294967296) entry (omega arith)

-- a longer bound changes nothing
entries_enough : (f g b : List ℕ) → length b ≤ length f → length b ≤ length g → entries_within f b ≡ entries_within g b
entries_enough [] [] b le le2 = refl
entries_enough [] (y ∷ g) [] le le2 = refl
entries_enough [] (y ∷ g) (x ∷ b) le le2 = absurd (omega arith)
entries_enough (x ∷ f) [] [] le le2 = refl
entries_enough (x ∷ f) [] (y ∷ b) le le2 = absurd (omega arith)
entries_enough (x ∷ f) (y ∷ g) b le le2 =
    ap (λ (l : List (List ℕ)). if is_block b then first_entry b ∷ l else [])
    (entries_enough f g (behind b) (omega (arith, length-drop (stored_length b) (drop 9 b), length-drop 9 b, le)) (omega (arith, length-drop (stored_length b) (drop 9 b), length-drop 9 b, le2)))

rest_enough : (f g b : List ℕ) → length b ≤ length f → length b ≤ length g → rest_within f b ≡ rest_within g b
rest_enough [] [] b le le2 = refl
rest_enough [] (y ∷ g) [] le le2 = refl
rest_enough [] (y ∷ g) (x ∷ b) le le2 = absurd (omega arith)
rest_enough (x ∷ f) [] [] le le2 = refl
rest_enough (x ∷ f) [] (y ∷ b) le le2 = absurd (omega arith)
rest_enough (x ∷ f) (y ∷ g) b le le2 =
    ap (λ (l : List ℕ). if is_block b then l else b)
    (rest_enough f g (behind b) (omega (arith, length-drop (stored_length b) (drop 9 b), length-drop 9 b, le)) (omega (arith, length-drop (stored_length b) (drop 9 b), length-drop 9 b, le2)))

-- the bytes behind a block are fewer
behind_less : (x : ℕ) (t : List ℕ) → length (behind (x ∷ t)) ≤ length t
behind_less x t = omega (arith, length-drop (stored_length (x ∷ t)) (drop 9 (x ∷ t)), length-drop 9 (x ∷ t))

-- one step of reading
pub entries_more : (b : List ℕ) → is_block b ≡ true → entries b ≡ first_entry b ∷ entries (behind b)
entries_more [] is = absurd (false≢true is)
entries_more (x ∷ t) is =
    let b = x ∷ t in
    ap (λ q. if q then first_entry b ∷ entries_within t (behind b) else []) is
    ∙ ap (λ (l : List (List ℕ)). first_entry b ∷ l) (entries_enough t (behind b) (behind b) (behind_less x t) (omega arith))

pub rest_more : (b : List ℕ) → is_block b ≡ true → rest b ≡ rest (behind b)
rest_more [] is = absurd (false≢true is)
rest_more (x ∷ t) is =
    let b = x ∷ t in
    ap (λ q. if q then rest_within t (behind b) else b) is
    ∙ rest_enough t (behind b) (behind b) (behind_less x t) (omega arith)

pub entries_none : (b : List ℕ) → is_block b ≡ false → entries b ≡ []
entries_none [] shut = refl
entries_none (x ∷ t) shut = let b = x ∷ t in ap (λ q. if q then first_entry b ∷ entries_within t (behind b) else []) shut

pub rest_none : (b : List ℕ) → is_block b ≡ false → rest b ≡ b
rest_none [] shut = refl
rest_none (x ∷ t) shut = let b = x ∷ t in ap (λ q. if q then rest_within t (behind b) else b) shut

-- an open gate, and the block of an entry behind it
module _ (p r : List ℕ) (low : length p < 2 ^ 32) where
  abbrev block : List ℕ
  block = 1 ∷ (body p ++ r)

  length_is : stored_length block ≡ length p
  length_is = number_of (length p) low

  checksum_is : stored_checksum block ≡ checksum p
  checksum_is = number_of (checksum p) (checksum_low p)

  entry_is : first_entry block ≡ p
  entry_is = ap (λ (k : ℕ). take k (p ++ r)) length_is ∙ take-append_seam p r

  behind_is : behind block ≡ r
  behind_is = ap (λ (k : ℕ). drop k (p ++ r)) length_is ∙ drop-append_seam p r

  block_is : is_block block ≡ true
  block_is = and_from _ _ (le-leb (9 + stored_length block) (length block) (omega (arith, length_is, length-append p r))) (eq-eqb (checksum (first_entry block)) (stored_checksum block) (ap checksum entry_is ∙ sym checksum_is))

  pub entries-block : entries block ≡ p ∷ entries r
  entries-block = entries_more block block_is ∙ ap (λ (l : List ℕ). l ∷ entries (behind block)) entry_is ∙ ap (λ (l : List ℕ). p ∷ entries l) behind_is

  pub rest-block : rest block ≡ rest r
  rest-block = rest_more block block_is ∙ ap rest behind_is

-- blocks, and then any bytes
pub entries-blocks : (ps : List (List ℕ)) (r : List ℕ) → AreShort ps → entries (blocks ps ++ r) ≡ ps ++ entries r
entries-blocks [] r short = refl
entries-blocks (p ∷ ps) r short =
    ap entries (ap (λ (l : List ℕ). 1 ∷ l) (append_assoc (body p) (blocks ps) r))
    ∙ entries-block p (blocks ps ++ r) short.0
    ∙ ap (λ (l : List (List ℕ)). p ∷ l) (entries-blocks ps r short.1)

pub rest-blocks : (ps : List (List ℕ)) (r : List ℕ) → AreShort ps → rest (blocks ps ++ r) ≡ rest r
rest-blocks [] r short = refl
rest-blocks (p ∷ ps) r short =
    ap rest (ap (λ (l : List ℕ). 1 ∷ l) (append_assoc (body p) (blocks ps) r))
    ∙ rest-block p (blocks ps ++ r) short.0
    ∙ rest-blocks ps r short.1

-- a gate that is not open begins no block
pub not_open : (g : ℕ) (r : List ℕ) → g ≢ 1 → is_block (g ∷ r) ≡ false
not_open g r closed = ap (λ q. q && (nat_le (9 + stored_length (g ∷ r)) (length (g ∷ r)) && checksum (first_entry (g ∷ r)) == stored_checksum (g ∷ r))) (ne_eqb g 1 closed)

pub entries-shut : (ps : List (List ℕ)) (g : ℕ) (r : List ℕ) → AreShort ps → g ≢ 1 → entries (blocks ps ++ g ∷ r) ≡ ps
entries-shut ps g r short closed =
    entries-blocks ps (g ∷ r) short
    ∙ ap (λ (l : List (List ℕ)). ps ++ l) (entries_none (g ∷ r) (not_open g r closed))
    ∙ append-nil ps

pub rest-shut : (ps : List (List ℕ)) (g : ℕ) (r : List ℕ) → AreShort ps → g ≢ 1 → rest (blocks ps ++ g ∷ r) ≡ g ∷ r
rest-shut ps g r short closed = rest-blocks ps (g ∷ r) short ∙ rest_none (g ∷ r) (not_open g r closed)

pub blocks-push : (ps : List (List ℕ)) (p r : List ℕ) → blocks (ps ++ p ∷ []) ++ r ≡ blocks ps ++ (1 ∷ (body p ++ r))
blocks-push [] p r = ap (λ (l : List ℕ). 1 ∷ l) (append_assoc (body p) [] r)
blocks-push (q ∷ ps) p r = ap (λ (l : List ℕ). 1 ∷ l) (append_assoc (body q) (blocks (ps ++ p ∷ [])) r ∙ ap (λ (l : List ℕ). body q ++ l) (blocks-push ps p r) ∙ sym (append_assoc (body q) (blocks ps) (1 ∷ (body p ++ r))))

pub short-push : (ps : List (List ℕ)) (p : List ℕ) → AreShort ps → length p < 2 ^ 32 → AreShort (ps ++ p ∷ [])
short-push [] p short low = (low, tt)
short-push (q ∷ ps) p short low = (short.0, short-push ps p short.1 low)

-- a file without a new entry, whatever follows a gate that isn't open
pub before : (ps : List (List ℕ)) (p : List ℕ) (g : ℕ) (r : List ℕ) → AreShort ps → g ≢ 1 → IsBeforeOrAfter ps p (blocks ps ++ g ∷ r)
before ps p g r short closed = record {
  holds = inl (entries-shut ps g r short closed);
  no_damage = subst (λ (l : List ℕ). gate l ≢ 1) (sym (rest-shut ps g r short closed)) closed;
}

after : (ps : List (List ℕ)) (p : List ℕ) → AreShort ps → length p < 2 ^ 32 → IsBeforeOrAfter ps p (blocks ps ++ (1 ∷ (body p ++ 0 ∷ [])))
after ps p short low = record {
  holds = inr (entries-blocks ps (1 ∷ (body p ++ 0 ∷ [])) short ∙ ap (λ (l : List (List ℕ)). ps ++ l) (entries-block p (0 ∷ []) low));
  no_damage = subst (λ (l : List ℕ). gate l ≢ 1) (sym (rest-blocks ps (1 ∷ (body p ++ 0 ∷ [])) short ∙ rest-block p (0 ∷ []) low)) (λ is. absurd (omega (arith, is)));
}

-- a whole block behind any gate
pub either : (ps : List (List ℕ)) (g : ℕ) (p : List ℕ) → AreShort ps → length p < 2 ^ 32 → IsBeforeOrAfter ps p (blocks ps ++ (g ∷ (body p ++ 0 ∷ [])))
either ps g p short low = elim (cases_eq g 1) [
  | inl is_open ↦ subst (λ (k : ℕ). IsBeforeOrAfter ps p (blocks ps ++ (k ∷ (body p ++ 0 ∷ [])))) (sym is_open) (after ps p short low)
  | inr closed ↦ before ps p g (body p ++ 0 ∷ []) short closed
]

-- a block lies within the bytes that it begins
pub within : (b : List ℕ) → is_block b ≡ true → 9 + stored_length b ≤ length b
within b is =
    let parts = and_parts (gate b == 1) (nat_le (9 + stored_length b) (length b) && checksum (first_entry b) == stored_checksum b) is in
    let more = and_parts (nat_le (9 + stored_length b) (length b)) (checksum (first_entry b) == stored_checksum b) parts.1 in
    leb-true _ _ more.0

-- one step of reading, in the words of the loop
pub read_step : (held : List (Vec ℕ Global)) (v : Vec ℕ Global) (b next all : List ℕ)
    → is_block b ≡ true → v.items ≡ first_entry b → next ≡ behind b
    → map (λ (v : Vec ℕ Global). v.items) held ++ entries b ≡ entries all
    → map (λ (v : Vec ℕ Global). v.items) (held ++ v ∷ []) ++ entries next ≡ entries all
read_step held v b next all is entry_is next_is so_far =
    let items : List (List ℕ) = map (λ (v : Vec ℕ Global). v.items) held in
    ap (λ (l : List (List ℕ)). l ++ entries next) (map-append (λ (v : Vec ℕ Global). v.items) held (v ∷ []))
    ∙ append_assoc items (v.items ∷ []) (entries next)
    ∙ ap (λ (l : List ℕ). items ++ (l ∷ entries next)) entry_is
    ∙ ap (λ (l : List ℕ). items ++ (first_entry b ∷ entries l)) next_is
    ∙ ap (λ (l : List (List ℕ)). items ++ l) (sym (entries_more b is))
    ∙ so_far

pub rest_step : (b next all : List ℕ) → is_block b ≡ true → next ≡ behind b → rest b ≡ rest all → rest next ≡ rest all
rest_step b next all is next_is so_far = ap rest next_is ∙ sym (rest_more b is) ∙ so_far

pub suffix_step : (all b next : List ℕ) → is_block b ≡ true → next ≡ behind b → length b ≤ length all
    → drop (length all - length b) all ≡ b → drop (length all - length next) all ≡ next
suffix_step all b next is next_is le suffix =
    let n = stored_length b in
    let len : length next ≡ length b - (9 + n) = omega (arith, ap length next_is, length-drop n (drop 9 b), length-drop 9 b) in
    let at : length all - length next ≡ length all - length b + (9 + n) = omega (arith, len, le, within b is) in
    ap (λ (k : ℕ). drop k all) at
    ∙ sym (drop-drop (9 + n) (length all - length b) all)
    ∙ ap (λ (l : List ℕ). drop (9 + n) l) suffix
    ∙ sym (drop-drop n 9 b)
    ∙ sym next_is
