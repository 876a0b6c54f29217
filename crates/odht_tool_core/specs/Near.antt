-- Words that one slip makes of each other: a byte is left out or too many, another one is in its place, or two
-- neighbours have changed places.
--     is_without k w v     the word w without its byte k is v
--     is_replaced k w v    the words are the same except their byte k
--     is_swapped k w v     the words are the same except their bytes k and k + 1, which have changed places
--     is_slip w v k        one of these holds at the byte k
--     is_near w v          one of these holds at some byte
use Rattle.std.specs.Prelude.{ℕ, ◌+◌, Bool, ◌&&◌, ◌||◌, ◌==◌, bytes_eq, nat_lt, List, length, take, drop, slice_index}
use Rattle.std.specs.List.{range_with_len, list_any}

abbrev pub is_without : ℕ → List ℕ → List ℕ → Bool
is_without k w v = nat_lt k (length w) && bytes_eq (take k w) (take k v) && bytes_eq (drop (k + 1) w) (drop k v)

abbrev pub is_replaced : ℕ → List ℕ → List ℕ → Bool
is_replaced k w v =
    nat_lt k (length w) && nat_lt k (length v) && bytes_eq (take k w) (take k v) && bytes_eq (drop (k + 1) w) (drop (k + 1) v)

abbrev pub is_swapped : ℕ → List ℕ → List ℕ → Bool
is_swapped k w v =
    nat_lt (k + 1) (length w) && nat_lt (k + 1) (length v) && bytes_eq (take k w) (take k v)
    && slice_index w k == slice_index v (k + 1) && slice_index w (k + 1) == slice_index v k
    && bytes_eq (drop (k + 2) w) (drop (k + 2) v)

abbrev pub is_slip : List ℕ → List ℕ → ℕ → Bool
is_slip w v k = is_without k w v || is_without k v w || is_replaced k w v || is_swapped k w v

abbrev pub is_near : List ℕ → List ℕ → Bool
is_near w v = list_any (is_slip w v) (range_with_len 0 (length w + 1))
