-- Lists of one and of two.
use Rattle.std.proofs.Common.{◌≡◌, ◌≤◌, ◌<◌, List, [], ◌∷◌, length, get_or, map, ap, sym, arith}

pub map_single : {X Y : Type 0} (f : X → Y) (xs : List X) (x : X) → 1 ≤ length xs → length xs < 2 → x ≡ get_or xs 0 x → map f xs ≡ f x ∷ []
map_single f [] x some few is = absurd (omega (arith, some))
map_single f (y ∷ []) x some few is = ap (λ z. f z ∷ []) (sym is)
map_single f (y ∷ z ∷ zs) x some few is = absurd (omega (arith, few))

-- a list of two
pub map_pair : {X Y : Type 0} (f : X → Y) (xs : List X) (x y : X) → 2 ≤ length xs → length xs < 3 → x ≡ get_or xs 0 x → y ≡ get_or xs 1 y → map f xs ≡ f x ∷ f y ∷ []
map_pair f [] x y some few first second = absurd (omega (arith, some))
map_pair f (a ∷ []) x y some few first second = absurd (omega (arith, some))
map_pair f (a ∷ b ∷ []) x y some few first second = λ i. f (sym first i) ∷ f (sym second i) ∷ []
map_pair f (a ∷ b ∷ c ∷ xs) x y some few first second = absurd (omega (arith, few))
