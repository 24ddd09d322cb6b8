-- What a reader must believe of symbols and columns, in reading order.

-- the four symbols, their sum, product and bits, and a number as a symbol
pub mod Symbol
-- columns of four bits: value, parity, top bit, weight and sum, a number as a column, and the column that is fixed by parity, value and top bit
pub mod Column
-- what is claimed of them: a field; a column fixed by three parts that add; weights; symbols and columns as numbers, there and back
pub mod Claims
