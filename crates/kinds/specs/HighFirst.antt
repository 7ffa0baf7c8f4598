-- A number in k bytes, the high byte first: it is the number that the bytes write, and bytes are those of the number they write.
use Rattle.std.specs.Prelude.{◌≡◌, ℕ, zero, suc, ◌+◌, ◌*◌, ◌/◌, ◌%◌, ◌^◌, ◌<◌, List, [], ◌∷◌, ◌++◌, map, length, slice_index, refl}
use Rattle.std.proofs.Common.{sym, ap, ◌∙◌, append_assoc, pow-suc, arith}
use Rattle.std.specs.List.{range_with_len}
use Rattle.std.specs.Int.Digits.{number_from_digits, number_from_digits_after}
use Rattle.std.proofs.lemmas.List.FromFn.{fill_by_all}
use Rattle.std.proofs.lemmas.Int.Digits.{number_push}
use Rattle.std.proofs.lemmas.List.{append-nil}
use Rattle.weights.specs.Kind.{Octets}
use Rattle.kinds.specs.Bytes.{high_first}

number_high_first : (k n : ℕ) → n < 256 ^ k → number_from_digits 256 (high_first k n) ≡ n
number_high_first zero n h = omega arith
number_high_first (suc k) n h =
    let p = pow-suc 256 k in
    let part = number_high_first k (n / 256) (omega arith) in
    number_push 256 (high_first k (n / 256)) (n % 256) ∙ omega arith

pub high_first_injective : (k m n : ℕ) → m < 256 ^ k → n < 256 ^ k → high_first k m ≡ high_first k n → m ≡ n
high_first_injective k m n hm hn e = sym (number_high_first k m hm) ∙ ap (number_from_digits 256) e ∙ number_high_first k n hn

read_after : (bs : List ℕ) (k n : ℕ) → Octets bs → high_first (k + length bs) (number_from_digits_after 256 n bs) ≡ high_first k n ++ bs
read_after [] k n o = let e : k + 0 ≡ k = omega arith in rw e (sym (append-nil (high_first k n)))
read_after (b ∷ bs) k n o =
    let e : k + suc (length bs) ≡ suc k + length bs = omega arith in
    let q : (n * 256 + b) / 256 ≡ n = omega (arith, o.0) in
    let r : (n * 256 + b) % 256 ≡ b = omega (arith, o.0) in
    let step = read_after bs (suc k) (n * 256 + b) o.1 in
    rw e (step ∙ rw (q, r, append_assoc))

pub high_first_read : (bs : List ℕ) (n : ℕ) → Octets bs → n ≡ number_from_digits 256 bs → high_first (length bs) n ≡ bs
high_first_read bs n o h = let e : 0 + length bs ≡ length bs = omega arith in rw h (rw e at (read_after bs 0 0 o))

-- a list of k bytes, by its bytes
pub spelled : (k : ℕ) (bs : List ℕ) → length bs ≡ k → bs ≡ map (λ i. slice_index bs i) (range_with_len 0 k)
spelled k bs h = fill_by_all (λ i. slice_index bs i) bs k 0 h (λ i _. refl)
