-- Worked examples: the dump of the table of 1 to 2, from u32 to u32.
use Rattle.std.proofs.Common.{◌≡◌, ◌++◌, ℕ, refl, List, [], ◌∷◌, Option, Some, None, option_map}
use Rattle.std.specs.Prelude.{codes, decimal, option_and_then}
use Rattle.std.specs.Fmt.{debug_list, digits}
use Rattle.std.specs.List.{range_with_len, flat_map}
use Rattle.odht_base.specs.Image.{image}
use Rattle.odht_base.proofs.examples.Configs.{test_config, pair32, view_of}
use Rattle.odht_header.proofs.examples.Opened.{opened}
use Rattle.odht_raw.specs.Dumps.{DebugText, slot_text, parts_of, owned_dump_text}

-- what `{:?}` writes of an array of bytes
abbrev array_text : DebugText
array_text b = debug_list (λ n. Some (decimal n)) b

-- its bytes, in sixteen slots at 87 percent
abbrev one_bytes : Option (List ℕ)
one_bytes = option_map (image test_config) (view_of test_config 0 87 (pair32 1 2 ∷ []))

-- the line of slot i
abbrev line : ℕ → Option (List ℕ)
line i = option_and_then (λ B. slot_text test_config array_text array_text (parts_of test_config B) i) one_bytes

-- of a free slot, and of slot 5, which is the key's home
pub slot_lines : (line 0 ≡ Some (codes "slot 0: empty\n"))
    × (line 5 ≡ Some (codes "slot 5: key=[1, 0, 0, 0], value=[2, 0, 0, 0], control_byte=19\n"))
unfolding opened digits
slot_lines = (refl, refl)

-- where the key's text is unknown, so is the line
pub unknown_text : option_and_then (λ B. slot_text test_config (λ b. None) array_text (parts_of test_config B) 5) one_bytes ≡ None
unfolding opened digits
unknown_text = refl

-- the lines of n free slots, from slot a on
abbrev free_lines : ℕ → ℕ → List ℕ
free_lines a n = flat_map (λ i. codes "slot " ++ decimal i ++ codes ": empty\n") (range_with_len a n)

-- all lines
pub whole_dump : option_and_then (owned_dump_text test_config array_text array_text (codes "FxHashFn")) one_bytes
    ≡ Some (codes "(item_count=1, max_item_count=13, max_load_factor=86%)\nRawTable (slot_count=16, hash_fn=FxHashFn) {\n"
    ++ free_lines 0 5 ++ codes "slot 5: key=[1, 0, 0, 0], value=[2, 0, 0, 0], control_byte=19\n" ++ free_lines 6 10 ++ codes "}\n\n")
unfolding opened digits
whole_dump = refl
