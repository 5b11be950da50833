-- The fifteen rows in one statement. Assumes nothing.
use Rattle.law_rows.proofs.Rows.{P1, P2, P3, P4, P5, P6, P7, P8, P9, P10, P11, P12, P13, P14, P15, packed_rows, bitmap_rows, purse_rows, cyclic_rows, place_rows}

-- All of them.
pub rows : (P1 × P2 × P3) × (P4 × P5) × (P6 × P7 × P8 × P9 × P10 × P11 × P12) × (P13 × P14) × P15
rows = (packed_rows, bitmap_rows, purse_rows, cyclic_rows, place_rows)
