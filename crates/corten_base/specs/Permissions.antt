-- Permissions as bits: read 1, write 2, execute 4.
--     bits_of      the bits of a set of permissions
--     perm_of_bits      the permissions that bits name
--     permission_names      the name and the bit of each
use Rattle.std.specs.Prelude.{ℕ, ◌+◌, ◌/◌, ◌%◌, List, [], ◌∷◌, nat_eq, codes, if◌then◌else◌}
use Rattle.corten_base.specs.declared.permissions.Perm.{Perm}

abbrev pub bits_of : Perm → ℕ
bits_of perm = (if perm.read then 1 else 0) + (if perm.write then 2 else 0) + (if perm.exec then 4 else 0)

abbrev pub perm_of_bits : ℕ → Perm
perm_of_bits bits = record { read = nat_eq (bits % 2) 1; write = nat_eq (bits / 2 % 2) 1; exec = nat_eq (bits / 4 % 2) 1 }

abbrev pub permission_names : List (List ℕ × ℕ)
permission_names = (codes "R", 1) ∷ (codes "W", 2) ∷ (codes "X", 4) ∷ []
