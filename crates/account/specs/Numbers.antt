-- Numbers as a script writes them. Assumes nothing.
--   digit c              the byte is one of 0 to 9
--   numeral ds           the text is one digit or more, and nothing else
--   read_on v ds         the number that the digits ds write behind those of v
--   number_of most ds    the number that a numeral writes, where it is at most `most`
--   hex_of c             what a hexadecimal digit is worth
--   mask_of ds           the mask that one or two hexadecimal digits write
use Rattle.std.specs.Prelude.{ℕ, ◌+◌, ◌-◌, ◌*◌, Bool, true, false, cond, ◌&&◌, List, [], ◌∷◌, Some, None, Option, nat_le}

abbrev pub digit : ℕ → Bool
digit c = nat_le 48 c && nat_le c 57

abbrev pub digits : List ℕ → Bool
digits [] = true
digits (c ∷ cs) = digit c && digits cs

abbrev pub numeral : List ℕ → Bool
numeral [] = false
numeral (c ∷ cs) = digits (c ∷ cs)

abbrev pub read_on : ℕ → List ℕ → ℕ
read_on v [] = v
read_on v (c ∷ cs) = read_on (10 * v + (c - 48)) cs

abbrev pub number_of : ℕ → List ℕ → Option ℕ
number_of most ds = cond (numeral ds && nat_le (read_on 0 ds) most) (Some (read_on 0 ds)) None

abbrev pub hex_of : ℕ → Option ℕ
hex_of c = cond (nat_le 48 c && nat_le c 57) (Some (c - 48)) (cond (nat_le 65 c && nat_le c 70) (Some (c - 55)) (cond (nat_le 97 c && nat_le c 102) (Some (c - 87)) None))

abbrev pub two_digits : Option ℕ → Option ℕ → Option ℕ
two_digits None low = None
two_digits (Some high) None = None
two_digits (Some high) (Some low) = Some (16 * high + low)

abbrev pub mask_of : List ℕ → Option ℕ
mask_of [] = None
mask_of (low ∷ []) = hex_of low
mask_of (high ∷ low ∷ []) = two_digits (hex_of high) (hex_of low)
mask_of (a ∷ b ∷ c ∷ more) = None
