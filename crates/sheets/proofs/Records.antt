-- Records by their bytes.
use Rattle.std.proofs.Common.{◌≡◌, ℕ, ◌+◌, ◌*◌, ◌/◌, ◌%◌, ◌<◌, ◌≤◌, List, [], ◌∷◌, ◌++◌, length, get_or, take, drop, Some, None, Option, Result, MatchResult, sym, ap, ◌∙◌, inr, arith, lit≤}
use Rattle.std.proofs.lemmas.List.{length-drop, take-append-drop}
use Rattle.std.proofs.lemmas.Slice.{between_from_start}
use denote.Ref.{Bor}
use Rattle.std.specs.Option.{ok_or}
use Rattle.std.specs.Slice.{IsGetRangeResult}
use Rattle.sheets.specs.declared.fault.SheetFault.{SheetFault}
use Rattle.sheets.specs.declared.fault.SheetFault.TheVariants.{EndsInside}
use Rattle.sheets.specs.Format.{two, tag_of, length_of, Known, FrameFault, Framed}
use Rattle.sheets.specs.declared.tag.Tag.{Tag}
use Rattle.sheets.specs.declared.tag.Tag.TheVariants.{Kind, Calendar, Job}
use Rattle.sheets.specs.Tags.{tag_byte}

-- a header that says what is wanted, with enough bytes behind it, begins a whole record
pub framed : (wanted least most : ℕ) (rest value : List ℕ) → 3 ≤ length rest → tag_of rest ≡ wanted → get_or rest 2 0 < 256 → length value ≡ length_of rest
    → least ≤ length value → length value ≤ most → value ≡ take (length value) (drop 3 rest) → Framed wanted least most rest value
framed wanted least most [] value h t b e l m v = absurd (omega arith)
framed wanted least most (x ∷ []) value h t b e l m v = absurd (omega arith)
framed wanted least most (x ∷ y ∷ []) value h t b e l m v = absurd (omega arith)
framed wanted least most (x ∷ y ∷ z ∷ body) value h t b e l m v =
    let high : y ≡ length value / 256 = omega arith in
    let low : z ≡ length value % 256 = omega arith in
    let whole : body ≡ value ++ drop (length value) body = sym (take-append-drop (length value) body) ∙ ap (λ l. l ++ drop (length value) body) (sym v) in
    record { long = (l, m); after = drop (length value) body; bytes = cc }

-- as many bytes behind a header that says what is wanted as it says, or else the record ends inside its value
pub value_read : (wanted least most n : ℕ) (rest body : List ℕ) (part : Option (Bor (List ℕ))) → 3 ≤ length rest → tag_of rest ≡ wanted → Known wanted → get_or rest 2 0 < 256 → n ≡ length_of rest
    → least ≤ n → n ≤ most → body ≡ drop 3 rest → IsGetRangeResult body 0 n part → (answer : Result (Bor (List ℕ)) SheetFault) → answer ≡ ok_or part EndsInside
    → MatchResult answer (λ value. Framed wanted least most rest value.now) (λ fault. FrameFault wanted least most rest fault)
value_read wanted least most n rest body None h t k b e l m s g answer same =
    let known = (let back = sym t in rw back at k) in
    rw same (inr (h, known, t, omega arith, omega arith, omega (arith, g.0, ap length s, length-drop 3 rest)))
value_read wanted least most n rest body (Some part) h t k b e l m s g answer same =
    let long : length part.now ≡ n = omega (arith, g.0.3) in
    let read : part.now ≡ take n body = g.0.2 ∙ between_from_start body n in
    rw same (framed wanted least most rest part.now h t b (omega arith) (omega arith) (omega arith) (read ∙ (ap (take n) s ∙ ap (λ i. take i (drop 3 rest)) (sym long))))

-- a number in two bytes, before the rest
two_front : (n x y : ℕ) (rest : List ℕ) → y < 256 → n ≡ x * 256 + y → two n ++ rest ≡ x ∷ (y ∷ rest)
two_front n x y rest h e =
    let high : n / 256 ≡ x = omega arith in
    let low : n % 256 ≡ y = omega arith in
    cc

-- three numbers and then the rest, from the bytes that they were read from
pub three_numbers : (a b c : ℕ) (value rest : List ℕ) → 6 ≤ length value → ((i : ℕ) → get_or value i 0 < 256)
    → a ≡ get_or value 0 0 * 256 + get_or value 1 0 → b ≡ get_or value 2 0 * 256 + get_or value 3 0 → c ≡ get_or value 4 0 * 256 + get_or value 5 0
    → rest ≡ drop 6 value → two a ++ (two b ++ (two c ++ rest)) ≡ value
three_numbers a b c [] rest h byte p q r e = absurd (omega arith)
three_numbers a b c (u ∷ []) rest h byte p q r e = absurd (omega arith)
three_numbers a b c (u ∷ v ∷ []) rest h byte p q r e = absurd (omega arith)
three_numbers a b c (u ∷ v ∷ w ∷ []) rest h byte p q r e = absurd (omega arith)
three_numbers a b c (u ∷ v ∷ w ∷ x ∷ []) rest h byte p q r e = absurd (omega arith)
three_numbers a b c (u ∷ v ∷ w ∷ x ∷ y ∷ []) rest h byte p q r e = absurd (omega arith)
three_numbers a b c (u ∷ v ∷ w ∷ x ∷ y ∷ z ∷ more) rest h byte p q r e =
    two_front a u v (two b ++ (two c ++ rest)) (byte 1) p
    ∙ ap (λ l. u ∷ (v ∷ l)) (two_front b w x (two c ++ rest) (byte 3) q ∙ ap (λ l. w ∷ (x ∷ l)) (two_front c y z rest (byte 5) r ∙ ap (λ l. y ∷ (z ∷ l)) e))

-- a value of one byte
pub framed_one : (wanted : ℕ) (rest value : List ℕ) → Framed wanted 1 1 rest value → Framed wanted 1 1 rest (get_or value 0 0 ∷ [])
framed_one wanted rest [] f = absurd (omega (arith, f.long))
framed_one wanted rest (x ∷ []) f = f
framed_one wanted rest (x ∷ y ∷ more) f = absurd (omega (arith, f.long))

-- a byte that begins a record is one of three
pub tag_known : (tag : Tag) → Known (tag_byte tag)
tag_known Kind = (lit≤ tt, lit≤ tt)
tag_known Calendar = (lit≤ tt, lit≤ tt)
tag_known Job = (lit≤ tt, lit≤ tt)
