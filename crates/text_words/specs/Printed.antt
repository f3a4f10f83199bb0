-- What words that are to be printed spell.
--     spelled       the bytes of a word
use Rattle.std.specs.Prelude.{ℕ, List}
use Rattle.text_words.specs.declared.printing.Word.{Word}
use Rattle.text_words.specs.declared.printing.Word.TheVariants.{Plain, Number, Address, Hex, Permission}
use Rattle.text_words.specs.Spelling.{number, address, hex, permission}

abbrev pub spelled : Word → List ℕ
spelled (Plain bytes) = bytes.now
spelled (Number n) = number n
spelled (Address n) = address n
spelled (Hex bytes) = hex bytes.now
spelled (Permission perm) = permission perm
